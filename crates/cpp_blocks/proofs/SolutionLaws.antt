-- The run is the one solution of the facts.
use Rattle.std.proofs.Common.{◌≡◌, ℕ, ◌+◌, ◌<◌, ◌≤◌, zero, suc, Bool, true, false, not, ◌&&◌, ◌||◌, cond, List, [], ◌∷◌, ◌++◌, length, filter, get_or, slice_get, Some, eqb, refl, sym, ap, ◌∙◌, subst, arith}
use Rattle.std.specs.List.{list_all}
use Rattle.std.proofs.lemmas.Bool.{false≢true}
use Rattle.std.proofs.lemmas.Bool.Decides.{nat_tests}
use Rattle.ut_logic.specs.declared.item.Item.{Item}
use Rattle.ut_logic.specs.declared.item.Item.TheVariants as item
use Rattle.ut_logic.specs.declared.formula.Formula.{Formula}
use Rattle.ut_logic.specs.declared.facts.Fact.{Fact}
use Rattle.ut_logic.specs.Assign.{is_in}
use Rattle.ut_logic.specs.Facts.{IsDefined, Meets, MeetsAll}
use Rattle.ut_logic.specs.Fold.{not_of, any_of}
use Rattle.ut_logic.specs.Item.{item_eq}
use Rattle.ut_logic.specs.ItemIdentity.{item_eq-Decides}
use Rattle.ut_logic.specs.Truth.{truth, truths, all_true, mentioned}
use Rattle.ut_logic.proofs.FoldLaws.{truth-not_of, truth-any_of}
use Rattle.ut_logic.proofs.MentionLaws.{truth-agree}
use Rattle.cpp_directives.specs.declared.directive.Directive.{Directive}
use Rattle.cpp_blocks.specs.declared.starts.StartOf.{StartOf}
use Rattle.cpp_blocks.specs.declared.starts.BuiltOf.{BuiltOf}
use Rattle.cpp_blocks.specs.declared.state.MacroState.{MacroState}
use Rattle.cpp_blocks.specs.declared.state.MacroState.TheVariants.{Undefined}
use Rattle.cpp_blocks.specs.Blocks.{count_of}
use Rattle.cpp_blocks.specs.Facts.{file_fact, start_fact, start_holds, is_free, is_block, is_state, states_from, at_first, facts_of, is_of_run, is_outside, Implies, AreStarts}
use Rattle.cpp_blocks.specs.Formulas.{Source, source_of, name_in}
use Rattle.cpp_blocks.specs.Mentions.{names_of}
use Rattle.cpp_blocks.specs.Run.{beginning, Start, is_defined, is_true, is_on_in, run_from}
use Rattle.cpp_blocks.specs.Solution.{state_of, start_state, start_of, states_after, states_of, IsRun, is_own, AreStates, IsTheRun}
use Rattle.cpp_blocks.specs.Steps.{facts_along}
use Rattle.cpp_directives.specs.WellFormed.{IsWellFormed}
use Rattle.cpp_blocks.proofs.Along.{each_front, each_back, each_both, at_end, run_keeps, blocks_begun, StatesCome, stands_at_end, states_come, meets_along}
use Rattle.cpp_blocks.proofs.CondTruth.{is_known, and_front, and_back}
use Rattle.cpp_blocks.proofs.Meeting.{Each, each_of, all_of_each}
use Rattle.cpp_blocks.proofs.Numbers.{place_within, place_is, all_known, name_number, none_covered, next_at_end}
use Rattle.cpp_blocks.proofs.Sorted.{facts_of_kind, lines_of, starts_of, states_all, blocks_all}
use Rattle.cpp_blocks.proofs.Standing.{Stands, RightState}

-- ---- starts

state_defined : (d t : Bool) → is_defined (state_of d t) ≡ d
state_defined true true = refl
state_defined true false = refl
state_defined false t = refl

state_true : (d t : Bool) → (t ≡ true → d ≡ true) → is_true (state_of d t) ≡ t
state_true true true h = refl
state_true true false h = refl
state_true false true h = absurd (false≢true (h refl))
state_true false false h = refl

implies_truth : (d t : Bool) → (t ≡ true → d ≡ true) → (not t || (d || false)) ≡ true
implies_truth true true h = refl
implies_truth true false h = refl
implies_truth false true h = h refl
implies_truth false false h = refl

truth_implies : (d t : Bool) → (not t || (d || false)) ≡ true → t ≡ true → d ≡ true
truth_implies true t h e = refl
truth_implies false true h e = h
truth_implies false false h e = e

holds_truth : (v : Item → Bool) (d t : Formula) → truth v (any_of (not_of t ∷ d ∷ [])) ≡ (not (truth v t) || (truth v d || false))
holds_truth v d t = truth-any_of v (not_of t ∷ d ∷ []) ∙ (λ i. truth-not_of v t i || (truth v d || false))

-- a start that is met, or that implies it, is not true without being defined
implied : (v : Item → Bool) (file name : ℕ) (s : StartOf) → Implies file name s → all_true (truths v (start_holds file name s)) ≡ true → truth v s.t ≡ true → truth v s.d ≡ true
implied v file name s implies = by (is_free file name s) implies
  where
    by : (b : Bool) → (b ≡ false → (w : Item → Bool) → truth w s.t ≡ true → truth w s.d ≡ true) → all_true (truths v (cond b (any_of (not_of s.t ∷ s.d ∷ []) ∷ []) [])) ≡ true → truth v s.t ≡ true → truth v s.d ≡ true
    by true f h = truth_implies (truth v s.d) (truth v s.t) (sym (holds_truth v s.d s.t) ∙ and_front (truth v (any_of (not_of s.t ∷ s.d ∷ []))) true h)
    by false f h = f refl v

held : (v : Item → Bool) (file name : ℕ) (s : StartOf) → (truth v s.t ≡ true → truth v s.d ≡ true) → all_true (truths v (start_holds file name s)) ≡ true
held v file name s h = by (is_free file name s)
  where
    by : (b : Bool) → all_true (truths v (cond b (any_of (not_of s.t ∷ s.d ∷ []) ∷ []) [])) ≡ true
    by true = (λ i. (holds_truth v s.d s.t ∙ implies_truth (truth v s.d) (truth v s.t) h) i && true)
    by false = refl

start_implies : (file k : ℕ) (ss : List StartOf) → AreStarts file k ss → (j : ℕ) (s : StartOf) → slice_get ss j ≡ Some s → Implies file (k + j) s
start_implies file k [] a j s e = absurd (cc)
start_implies file k (x ∷ ss) a zero s e = let same : x ≡ s = cc in let at : k ≡ k + 0 = omega arith in subst (λ n. Implies file n s) at (subst (λ y. Implies file k y) same a.2)
start_implies file k (x ∷ ss) a (suc j) s e = let at : suc k + j ≡ k + suc j = omega arith in subst (λ n. Implies file n s) at (start_implies file (suc k) ss a.3 j s e)

start_outside : (file k : ℕ) (ss : List StartOf) → AreStarts file k ss → (j : ℕ) (s : StartOf) → slice_get ss j ≡ Some s → (is_outside s.d ≡ true) × (is_outside s.t ≡ true)
start_outside file k [] a j s e = absurd (cc)
start_outside file k (x ∷ ss) a zero s e = let same : x ≡ s = cc in subst (λ (y : StartOf). (is_outside y.d ≡ true) × (is_outside y.t ≡ true)) same (a.0, a.1)
start_outside file k (x ∷ ss) a (suc j) s e = start_outside file (suc k) ss a.3 j s e

start_state_at : (v : Item → Bool) (ss : List StartOf) → AreStates v ss → (j : ℕ) (s : StartOf) → slice_get ss j ≡ Some s → truth v s.t ≡ true → truth v s.d ≡ true
start_state_at v [] a j s e = absurd (cc)
start_state_at v (x ∷ ss) a zero s e = let same : x ≡ s = cc in subst (λ (y : StartOf). truth v y.t ≡ true → truth v y.d ≡ true) same a.0
start_state_at v (x ∷ ss) a (suc j) s e = start_state_at v ss a.1 j s e

some_start : (ss : List StartOf) (k : ℕ) → k < length ss → (s : StartOf) × (slice_get ss k ≡ Some s)
some_start [] k l = absurd (omega arith)
some_start (s ∷ ss) zero l = (s, refl)
some_start (s ∷ ss) (suc k) l = some_start ss k (omega arith)

-- ---- where a run begins

begins : (file : ℕ) (ds : List Directive) (start : Start) (v : Item → Bool) → v (item.Block file 0) ≡ start.built
    → ((name : List ℕ) → is_known (source_of file ds) name ≡ true → RightState (source_of file ds) v name 0 (start.macros name)) → Stands (source_of file ds) v at_first [] (beginning start)
begins file ds start v built states = record {
  touched_is = refl;
  next_is = refl;
  blocks_are = λ b l. first b (omega arith);
  on_is = sym built;
  chains_are = tt;
  states_are = states;
}
  where
    first : (b : ℕ) → b ≡ 0 → v (item.Block file b) ≡ get_or (start.built ∷ []) b false
    first b e = ap (λ k. v (item.Block file k)) e ∙ (built ∙ sym (ap (λ k. get_or (start.built ∷ []) k false) e))

-- ---- one solution at most

-- a start that is met has the state that it chooses
start_right : (v : Item → Bool) (file : ℕ) (starts : List StartOf) (k : ℕ) (s : StartOf) → slice_get starts k ≡ Some s → Implies file k s → Meets v (start_fact file k s)
    → (v (item.StateD file k 0) ≡ is_defined (start_state v (slice_get starts k))) × (v (item.StateT file k 0) ≡ is_true (start_state v (slice_get starts k)))
start_right v file starts k s e implies m =
    let defs = each_of (IsDefined v) (record { item = item.StateD file k 0; formula = s.d } ∷ record { item = item.StateT file k 0; formula = s.t } ∷ []) m.defined in (
      defs.0 ∙ (sym (state_defined (truth v s.d) (truth v s.t)) ∙ ap (λ o. is_defined (start_state v o)) (sym e)),
      defs.1.0 ∙ (sym (state_true (truth v s.d) (truth v s.t) (implied v file k s implies m.held)) ∙ ap (λ o. is_true (start_state v o)) (sym e)),
    )

the_one : (file : ℕ) (ds : List Directive) (starts : List StartOf) (built : BuiltOf) → IsWellFormed ds → length starts ≡ length (names_of ds) → AreStarts file 0 starts → (v : Item → Bool) → MeetsAll v (facts_of file ds starts built)
    → IsRun (source_of file ds) ds (start_of (source_of file ds) starts built v) v
the_one file ds starts built formed count given v meets = record { blocks = blocks; defined = λ name known turn l. (at_turn name known turn l).0; truths = λ name known turn l. (at_turn name known turn l).1 }
  where
    src : Source
    src = source_of file ds

    start : Start
    start = start_of (source_of file ds) starts built v

    lines : List Fact
    lines = facts_along (source_of file ds) [] at_first ds

    all : Each (Meets v) ((file_fact file built ∷ filter (λ f. is_block f.node) (facts_along (source_of file ds) [] at_first ds)) ++ states_from file (facts_along (source_of file ds) [] at_first ds) 0 starts)
    all = each_of (Meets v) (facts_of file ds starts built) meets

    front : Meets v (file_fact file built) × Each (Meets v) (filter (λ f. is_block f.node) (facts_along (source_of file ds) [] at_first ds))
    front = each_front (Meets v) (file_fact file built ∷ filter (λ f. is_block f.node) (facts_along (source_of file ds) [] at_first ds)) (states_from file (facts_along (source_of file ds) [] at_first ds) 0 starts) all

    states : Each (Meets v) (states_from file (facts_along (source_of file ds) [] at_first ds) 0 starts)
    states = each_back (Meets v) (file_fact file built ∷ filter (λ f. is_block f.node) (facts_along (source_of file ds) [] at_first ds)) (states_from file (facts_along (source_of file ds) [] at_first ds) 0 starts) all

    meets_lines : Each (Meets v) (facts_along (source_of file ds) [] at_first ds)
    meets_lines = lines_of (Meets v) file (facts_along (source_of file ds) [] at_first ds) starts (length (names_of ds)) count (facts_of_kind (source_of file ds) ds [] at_first (all_known file ds)) front.1 states

    started : (name : List ℕ) → is_known (source_of file ds) name ≡ true → RightState (source_of file ds) v name 0 ((start_of (source_of file ds) starts built v).macros name)
    started name known = let k = name_in (source_of file ds) name in
        let within : k < length (names_of ds) = place_within _ (names_of ds) known in
        let one = some_start starts k (omega arith) in
        let at : 0 + k ≡ k = omega arith in
        start_right v file starts k one.0 one.1 (subst (λ n. Implies file n one.0) at (start_implies file 0 starts given k one.0 one.1))
        (subst (λ n. Meets v (start_fact file n one.0)) at (starts_of (Meets v) file (facts_along (source_of file ds) [] at_first ds) 0 starts states k one.0 one.1))

    begin : Stands (source_of file ds) v at_first [] (beginning (start_of (source_of file ds) starts built v))
    begin = begins file ds (start_of (source_of file ds) starts built v) v ((each_of (IsDefined v) (record { item = item.Block file 0; formula = built.formula } ∷ []) front.0.defined).0) started

    blocks : (b : ℕ) → b ≤ count_of ds → v (item.Block file b) ≡ is_on_in (start_of (source_of file ds) starts built v) ds b
    blocks b l = let next : (at_end at_first ds).next ≡ 1 + count_of ds = next_at_end ds at_first [] 1 [] none_covered formed.chains in
        (stands_at_end (source_of file ds) (start_of (source_of file ds) starts built v) v (λ text turn. refl) (λ line. refl) ds at_first [] (beginning (start_of (source_of file ds) starts built v)) begin (all_known file ds) meets_lines).blocks_are b (omega arith)

    come : StatesCome (source_of file ds) (start_of (source_of file ds) starts built v) v [] (beginning (start_of (source_of file ds) starts built v)) ds
    come = states_come (source_of file ds) (start_of (source_of file ds) starts built v) v (λ text turn. refl) (λ line. refl) ds at_first [] (beginning (start_of (source_of file ds) starts built v)) begin (all_known file ds) meets_lines

    at_turn : (name : List ℕ) → is_known (source_of file ds) name ≡ true → (turn : ℕ) → turn < length (states_of (start_of (source_of file ds) starts built v) ds name)
        → RightState (source_of file ds) v name turn (get_or (states_of (start_of (source_of file ds) starts built v) ds name) turn Undefined)
    at_turn name known zero l = started name known
    at_turn name known (suc k) l = let at : 0 + suc k ≡ suc k = omega arith in
        subst (λ t. RightState (source_of file ds) v name t (get_or (states_after (start_of (source_of file ds) starts built v) (beginning (start_of (source_of file ds) starts built v)) name ds) k Undefined)) at (come name known k (omega arith))

-- ---- one solution at least

same_number : (n : ℕ) → eqb n n ≡ true
same_number n = grind (arith, nat_tests)

-- the states of the name with this number in the run from this start
abbrev numbered : ℕ → List Directive → List StartOf → Start → (Item → Bool) → ℕ → List MacroState
numbered file ds starts start v k = start_state v (slice_get starts k) ∷ states_after start (beginning start) (get_or (names_of ds) k []) ds

-- the assignment whose blocks and states of this file are those of the run
abbrev solution : ℕ → List Directive → List StartOf → Start → (Item → Bool) → Item → Bool
solution file ds starts start v (item.Block f b) = cond (eqb f file) (is_on_in start ds b) (v (item.Block f b))
solution file ds starts start v (item.StateD f k t) = cond (eqb f file) (is_defined (get_or (numbered file ds starts start v k) t Undefined)) (v (item.StateD f k t))
solution file ds starts start v (item.StateT f k t) = cond (eqb f file) (is_true (get_or (numbered file ds starts start v k) t Undefined)) (v (item.StateT f k t))
solution file ds starts start v i = v i

not_own : (file : ℕ) (i : Item) → not (is_of_run i) ≡ true → is_own file i ≡ false
not_own file (item.Block f b) h = absurd (false≢true h)
not_own file (item.StateD f k t) h = absurd (false≢true h)
not_own file (item.StateT f k t) h = absurd (false≢true h)
not_own file _ h = refl

all_in : (p : Item → Bool) (items : List Item) (i : Item) → list_all p items ≡ true → is_in items i ≡ true → p i ≡ true
all_in p [] i h m = absurd (false≢true m)
all_in p (x ∷ xs) i h m = by (item_eq x i) refl m (all_in p xs i (and_back (p x) (list_all p xs) h))
  where
    by : (b : Bool) → item_eq x i ≡ b → (b || is_in xs i) ≡ true → (is_in xs i ≡ true → p i ≡ true) → p i ≡ true
    by true e m f = ap p (sym ((item_eq-Decides x i).0 e)) ∙ and_front (p x) (list_all p xs) h
    by false e m f = f m

module _ (file : ℕ) (ds : List Directive) (starts : List StartOf) (start : Start) (v : Item → Bool) where
  -- it changes no other item
  agrees : (i : Item) → is_own file i ≡ false → solution file ds starts start v i ≡ v i
  agrees (item.Block f b) h = ap (λ c. cond c (is_on_in start ds b) (v (item.Block f b))) h
  agrees (item.StateD f k t) h = ap (λ c. cond c (is_defined (get_or (numbered file ds starts start v k) t Undefined)) (v (item.StateD f k t))) h
  agrees (item.StateT f k t) h = ap (λ c. cond c (is_true (get_or (numbered file ds starts start v k) t Undefined)) (v (item.StateT f k t))) h
  agrees _ h = refl

  on_block : (b : ℕ) → solution file ds starts start v (item.Block file b) ≡ is_on_in start ds b
  on_block b = ap (λ c. cond c (is_on_in start ds b) (v (item.Block file b))) (same_number file)

  on_defined : (k t : ℕ) → solution file ds starts start v (item.StateD file k t) ≡ is_defined (get_or (numbered file ds starts start v k) t Undefined)
  on_defined k t = ap (λ c. cond c (is_defined (get_or (numbered file ds starts start v k) t Undefined)) (v (item.StateD file k t))) (same_number file)

  on_true : (k t : ℕ) → solution file ds starts start v (item.StateT file k t) ≡ is_true (get_or (numbered file ds starts start v k) t Undefined)
  on_true k t = ap (λ c. cond c (is_true (get_or (numbered file ds starts start v k) t Undefined)) (v (item.StateT file k t))) (same_number file)

  outside_same : (f : Formula) → is_outside f ≡ true → truth (solution file ds starts start v) f ≡ truth v f
  outside_same f h = truth-agree (solution file ds starts start v) v f (λ i m. agrees i (not_own file i (all_in (λ x. not (is_of_run x)) (mentioned f) i h m)))

-- a start's fact is met by the solution
start_met : (file : ℕ) (ds : List Directive) (starts : List StartOf) (start : Start) (v : Item → Bool) (k : ℕ) (s : StartOf) → slice_get starts k ≡ Some s → is_outside s.d ≡ true → is_outside s.t ≡ true
    → (truth v s.t ≡ true → truth v s.d ≡ true) → Meets (solution file ds starts start v) (start_fact file k s)
start_met file ds starts start v k s e od ot chosen =
    let d = outside_same file ds starts start v s.d od in
    let t = outside_same file ds starts start v s.t ot in record {
      held = held (solution file ds starts start v) file k s (λ h. d ∙ chosen (sym t ∙ h));
      defined = all_of_each (IsDefined (solution file ds starts start v)) (record { item = item.StateD file k 0; formula = s.d } ∷ record { item = item.StateT file k 0; formula = s.t } ∷ []) (
        on_defined file ds starts start v k 0 ∙ (ap (λ o. is_defined (start_state v o)) e ∙ (state_defined (truth v s.d) (truth v s.t) ∙ sym d)),
        (on_true file ds starts start v k 0 ∙ (ap (λ o. is_true (start_state v o)) e ∙ (state_true (truth v s.d) (truth v s.t) chosen ∙ sym t)), tt),
      );
    }

-- the states of a known name are those of its number
named : (file : ℕ) (ds : List Directive) (starts : List StartOf) (built : BuiltOf) (v : Item → Bool) (name : List ℕ) → is_known (source_of file ds) name ≡ true
    → numbered file ds starts (start_of (source_of file ds) starts built v) v (name_in (source_of file ds) name) ≡ states_of (start_of (source_of file ds) starts built v) ds name
named file ds starts built v name known = ap (λ n. start_state v (slice_get starts (name_in (source_of file ds) name)) ∷ states_after (start_of (source_of file ds) starts built v) (beginning (start_of (source_of file ds) starts built v)) n ds) (place_is name (names_of ds) known)

-- so each state of it is that of the run
right_state : (file : ℕ) (ds : List Directive) (starts : List StartOf) (built : BuiltOf) (v : Item → Bool) (name : List ℕ) (turn : ℕ) → is_known (source_of file ds) name ≡ true
    → RightState (source_of file ds) (solution file ds starts (start_of (source_of file ds) starts built v) v) name turn (get_or (states_of (start_of (source_of file ds) starts built v) ds name) turn Undefined)
right_state file ds starts built v name turn known = (
  on_defined file ds starts (start_of (source_of file ds) starts built v) v (name_in (source_of file ds) name) turn ∙ ap (λ (states : List MacroState). is_defined (get_or states turn Undefined)) (named file ds starts built v name known),
  on_true file ds starts (start_of (source_of file ds) starts built v) v (name_in (source_of file ds) name) turn ∙ ap (λ (states : List MacroState). is_true (get_or states turn Undefined)) (named file ds starts built v name known),
)

the_some : (file : ℕ) (ds : List Directive) (starts : List StartOf) (built : BuiltOf) → AreStarts file 0 starts → is_outside built.formula ≡ true → (v : Item → Bool) → AreStates v starts
    → MeetsAll (solution file ds starts (start_of (source_of file ds) starts built v) v) (facts_of file ds starts built)
the_some file ds starts built given outside v chosen =
    let start : Start = start_of (source_of file ds) starts built v in
    let u : (Item → Bool) = solution file ds starts (start_of (source_of file ds) starts built v) v in
    let begin : Stands (source_of file ds) (solution file ds starts (start_of (source_of file ds) starts built v) v) at_first [] (beginning (start_of (source_of file ds) starts built v)) =
    begins file ds (start_of (source_of file ds) starts built v) (solution file ds starts (start_of (source_of file ds) starts built v) v) at_zero (λ name known. right_state file ds starts built v name 0 known) in
    let meets_lines = meets_along (source_of file ds) (start_of (source_of file ds) starts built v) (solution file ds starts (start_of (source_of file ds) starts built v) v) (λ text turn. refl) (λ line. refl) ds at_first [] (beginning (start_of (source_of file ds) starts built v)) begin (all_known file ds)
    (λ b l. on_block file ds starts (start_of (source_of file ds) starts built v) v b) (λ name known k l. later name known k) in
    all_of_each (Meets (solution file ds starts (start_of (source_of file ds) starts built v) v)) (facts_of file ds starts built)
    (each_both (Meets (solution file ds starts (start_of (source_of file ds) starts built v) v)) (file_fact file built ∷ filter (λ f. is_block f.node) (facts_along (source_of file ds) [] at_first ds)) (states_from file (facts_along (source_of file ds) [] at_first ds) 0 starts) (
      record { held = refl; defined = all_of_each (IsDefined (solution file ds starts (start_of (source_of file ds) starts built v) v)) (record { item = item.Block file 0; formula = built.formula } ∷ []) (at_zero ∙ sym (outside_same file ds starts (start_of (source_of file ds) starts built v) v built.formula outside), tt) },
      blocks_all (Meets (solution file ds starts (start_of (source_of file ds) starts built v) v)) (facts_along (source_of file ds) [] at_first ds) meets_lines,
    )
    (states_all (Meets (solution file ds starts (start_of (source_of file ds) starts built v) v)) file (facts_along (source_of file ds) [] at_first ds) 0 starts meets_lines
    (λ j s e. let at : j ≡ 0 + j = omega arith in subst (λ n. Meets (solution file ds starts (start_of (source_of file ds) starts built v) v) (start_fact file n s)) at
    (start_met file ds starts (start_of (source_of file ds) starts built v) v j s e (start_outside file 0 starts given j s e).0 (start_outside file 0 starts given j s e).1 (start_state_at v starts chosen j s e)))))
  where
    at_zero : solution file ds starts (start_of (source_of file ds) starts built v) v (item.Block file 0) ≡ truth v built.formula
    at_zero = on_block file ds starts (start_of (source_of file ds) starts built v) v 0 ∙ run_keeps (start_of (source_of file ds) starts built v) ds (beginning (start_of (source_of file ds) starts built v)) 0 (omega arith)

    later : (name : List ℕ) → is_known (source_of file ds) name ≡ true → (k : ℕ)
        → RightState (source_of file ds) (solution file ds starts (start_of (source_of file ds) starts built v) v) name (0 + suc k) (get_or (states_after (start_of (source_of file ds) starts built v) (beginning (start_of (source_of file ds) starts built v)) name ds) k Undefined)
    later name known k = let at : suc k ≡ 0 + suc k = omega arith in
        subst (λ t. RightState (source_of file ds) (solution file ds starts (start_of (source_of file ds) starts built v) v) name t (get_or (states_after (start_of (source_of file ds) starts built v) (beginning (start_of (source_of file ds) starts built v)) name ds) k Undefined)) at
        (right_state file ds starts built v name (suc k) known)

-- ---- the run meets the facts

-- what is met has states at the start
states_met : (v : Item → Bool) (file : ℕ) (lines : List Fact) (k : ℕ) (ss : List StartOf) → AreStarts file k ss → Each (Meets v) (states_from file lines k ss) → AreStates v ss
states_met v file lines k [] a h = tt
states_met v file lines k (s ∷ ss) a h =
    let own = each_front (Meets v) (start_fact file k s ∷ filter (λ f. is_state k f.node) lines) (states_from file lines (suc k) ss) h in
    (implied v file k s a.2 own.0.held, states_met v file lines (suc k) ss a.3 (each_back (Meets v) (start_fact file k s ∷ filter (λ f. is_state k f.node) lines) (states_from file lines (suc k) ss) h))

-- where a run gives a start its state, the start is met
start_back : (v : Item → Bool) (file : ℕ) (starts : List StartOf) (k : ℕ) (s : StartOf) → slice_get starts k ≡ Some s → (truth v s.t ≡ true → truth v s.d ≡ true)
    → (v (item.StateD file k 0) ≡ is_defined (start_state v (slice_get starts k))) → (v (item.StateT file k 0) ≡ is_true (start_state v (slice_get starts k))) → Meets v (start_fact file k s)
start_back v file starts k s e chosen d t = record {
  held = held v file k s chosen;
  defined = all_of_each (IsDefined v) (record { item = item.StateD file k 0; formula = s.d } ∷ record { item = item.StateT file k 0; formula = s.t } ∷ []) (
    d ∙ (ap (λ o. is_defined (start_state v o)) e ∙ state_defined (truth v s.d) (truth v s.t)),
    (t ∙ (ap (λ o. is_true (start_state v o)) e ∙ state_true (truth v s.d) (truth v s.t) chosen), tt),
  );
}

within_some : (ss : List StartOf) (k : ℕ) (s : StartOf) → slice_get ss k ≡ Some s → k < length ss
within_some [] k s e = absurd (cc)
within_some (x ∷ ss) zero s e = omega arith
within_some (x ∷ ss) (suc k) s e = let l : k < length ss = within_some ss k s e in omega arith

the_back : (file : ℕ) (ds : List Directive) (starts : List StartOf) (built : BuiltOf) → IsWellFormed ds → length starts ≡ length (names_of ds) → (v : Item → Bool) → AreStates v starts
    → IsRun (source_of file ds) ds (start_of (source_of file ds) starts built v) v → MeetsAll v (facts_of file ds starts built)
the_back file ds starts built formed count v chosen run =
    all_of_each (Meets v) (facts_of file ds starts built)
    (each_both (Meets v) (file_fact file built ∷ filter (λ f. is_block f.node) (facts_along (source_of file ds) [] at_first ds)) (states_from file (facts_along (source_of file ds) [] at_first ds) 0 starts) (
      record { held = refl; defined = all_of_each (IsDefined v) (record { item = item.Block file 0; formula = built.formula } ∷ []) (at_zero, tt) },
      blocks_all (Meets v) (facts_along (source_of file ds) [] at_first ds) meets_lines,
    )
    (states_all (Meets v) file (facts_along (source_of file ds) [] at_first ds) 0 starts meets_lines
    (λ j s e. let at : j ≡ 0 + j = omega arith in subst (λ n. Meets v (start_fact file n s)) at (start_at j s e))))
  where
    at_zero : v (item.Block file 0) ≡ truth v built.formula
    at_zero = run.blocks 0 (omega arith) ∙ run_keeps (start_of (source_of file ds) starts built v) ds (beginning (start_of (source_of file ds) starts built v)) 0 (omega arith)

    begin : Stands (source_of file ds) v at_first [] (beginning (start_of (source_of file ds) starts built v))
    begin = begins file ds (start_of (source_of file ds) starts built v) v at_zero (λ name known. (run.defined name known 0 (omega arith), run.truths name known 0 (omega arith)))

    many : length (run_from (start_of (source_of file ds) starts built v) (beginning (start_of (source_of file ds) starts built v)) ds).blocks ≡ 1 + count_of ds
    many = blocks_begun (start_of (source_of file ds) starts built v) ds at_first (beginning (start_of (source_of file ds) starts built v)) refl refl ∙ next_at_end ds at_first [] 1 [] none_covered formed.chains

    later : (name : List ℕ) → is_known (source_of file ds) name ≡ true → (k : ℕ) → k < length (states_after (start_of (source_of file ds) starts built v) (beginning (start_of (source_of file ds) starts built v)) name ds)
        → RightState (source_of file ds) v name (0 + suc k) (get_or (states_after (start_of (source_of file ds) starts built v) (beginning (start_of (source_of file ds) starts built v)) name ds) k Undefined)
    later name known k l = let at : suc k ≡ 0 + suc k = omega arith in
        subst (λ t. RightState (source_of file ds) v name t (get_or (states_after (start_of (source_of file ds) starts built v) (beginning (start_of (source_of file ds) starts built v)) name ds) k Undefined)) at
        (run.defined name known (suc k) (omega arith), run.truths name known (suc k) (omega arith))

    meets_lines : Each (Meets v) (facts_along (source_of file ds) [] at_first ds)
    meets_lines = meets_along (source_of file ds) (start_of (source_of file ds) starts built v) v (λ text turn. refl) (λ line. refl) ds at_first [] (beginning (start_of (source_of file ds) starts built v)) begin (all_known file ds)
        (λ b l. run.blocks b (omega (arith, many))) later

    start_at : (j : ℕ) (s : StartOf) → slice_get starts j ≡ Some s → Meets v (start_fact file j s)
    start_at j s e =
        let own = name_number ds j (omega (arith, within_some starts j s e)) in
        let name = get_or (names_of ds) j [] in
        let d = subst (λ k. v (item.StateD file k 0) ≡ is_defined (start_state v (slice_get starts k))) own.1 (run.defined name own.0 0 (omega arith)) in
        let t = subst (λ k. v (item.StateT file k 0) ≡ is_true (start_state v (slice_get starts k))) own.1 (run.truths name own.0 0 (omega arith)) in
        start_back v file starts j s e (start_state_at v starts chosen j s e) d t

-- the facts of a source have exactly one solution, the run
pub the_run : (file : ℕ) (ds : List Directive) (starts : List StartOf) (built : BuiltOf) → IsWellFormed ds → length starts ≡ length (names_of ds) → AreStarts file 0 starts → is_outside built.formula ≡ true
    → IsTheRun (source_of file ds) ds starts built (facts_of file ds starts built)
the_run file ds starts built formed count given outside = record {
  exact = λ v. (λ meets. (states v meets, the_one file ds starts built formed count given v meets), λ both. the_back file ds starts built formed count v both.0 both.1);
  some = λ v chosen. (solution file ds starts (start_of (source_of file ds) starts built v) v, agrees file ds starts (start_of (source_of file ds) starts built v) v, the_some file ds starts built given outside v chosen);
}
  where
    states : (v : Item → Bool) → MeetsAll v (facts_of file ds starts built) → AreStates v starts
    states v meets = states_met v file (facts_along (source_of file ds) [] at_first ds) 0 starts given
        (each_back (Meets v) (file_fact file built ∷ filter (λ f. is_block f.node) (facts_along (source_of file ds) [] at_first ds)) (states_from file (facts_along (source_of file ds) [] at_first ds) 0 starts) (each_of (Meets v) (facts_of file ds starts built) meets))

-- The facts of a source have just its nodes, in order.
use Rattle.std.proofs.Common.{◌≡◌, ℕ, ◌+◌, ◌<◌, zero, suc, Bool, true, false, cond, List, [], ◌∷◌, ◌++◌, map, filter, length, length-append, get_or, eqb, refl, sym, ap, ◌∙◌, subst, arith}
use Rattle.std.specs.Prelude.{Ok, is_ok}
use Rattle.std.specs.List.{flat_map}
use Rattle.std.proofs.lemmas.Bool.{false≢true}
use Rattle.std.proofs.lemmas.Bool.Decides.{nat_tests}
use Rattle.std.proofs.lemmas.List.{map-append}
use Rattle.ut_text.specs.Text.{text_eq, text_equiv, text_eq-exact}
use Rattle.ut_logic.specs.declared.node.Node.{Node}
use Rattle.ut_logic.specs.declared.node.Node.TheVariants as node
use Rattle.ut_logic.specs.declared.facts.Fact.{Fact}
use Rattle.ut_logic.specs.declared.formula.Formula.{Formula}
use Rattle.cpp_directives.specs.declared.directive.Directive.{Directive}
use Rattle.cpp_directives.specs.declared.directive.What.{What}
use Rattle.cpp_directives.specs.declared.directive.What.TheVariants.{If, Elif, Else, Endif, Define, Undef}
use Rattle.cpp_directives.specs.Chains.{Earlier, chain_at, passing, part_of}
use Rattle.cpp_directives.specs.WellFormed.{all_passing, IsWellFormed}
use Rattle.cpp_directives.proofs.ChainLaws.{next_passes, turning_is}
use Rattle.cpp_blocks.specs.declared.groups.OpenGroups.{OpenGroups}
use Rattle.cpp_blocks.specs.declared.starts.StartOf.{StartOf}
use Rattle.cpp_blocks.specs.declared.starts.BuiltOf.{BuiltOf}
use Rattle.cpp_blocks.specs.Blocks.{parent_at, parents_from, next_after, open_after}
use Rattle.cpp_blocks.specs.Facts.{file_fact, start_fact, is_block, is_state, states_from, at_first, facts_of}
use Rattle.cpp_blocks.specs.Formulas.{Source, source_of, turns_after, name_in}
use Rattle.cpp_blocks.specs.Mentions.{names_at, names_of}
use Rattle.cpp_blocks.specs.Nodes.{block_nodes, state_nodes, name_nodes, nodes_of}
use Rattle.cpp_blocks.specs.Steps.{Standing, next_group, fact_at, facts_along, after}
use Rattle.cpp_blocks.specs.Turns.{touched_at, touched_in, turn_of}
use Rattle.cpp_blocks.proofs.Along.{AllKnown}
use Rattle.cpp_blocks.proofs.CondTruth.{is_known, Known, known_front, known_back, and_front}
use Rattle.cpp_blocks.proofs.Numbers.{place_is, all_known, name_number, Covers, none_covered, next_step}

filter-append : {A : Type 0} (p : A → Bool) (xs ys : List A) → filter p (xs ++ ys) ≡ filter p xs ++ filter p ys
filter-append p [] ys = refl
filter-append p (x ∷ xs) ys = by (p x) (filter-append p xs ys)
  where
    by : (b : Bool) → filter p (xs ++ ys) ≡ filter p xs ++ filter p ys → cond b (x ∷ filter p (xs ++ ys)) (filter p (xs ++ ys)) ≡ cond b (x ∷ filter p xs) (filter p xs) ++ filter p ys
    by true h = ap (λ zs. x ∷ zs) h
    by false h = h

-- the nodes of some facts
abbrev nodes_in : (Node → Bool) → List Fact → List Node
nodes_in p fs = map (λ (f : Fact). f.node) (filter (λ (f : Fact). p f.node) fs)

nodes_in-append : (p : Node → Bool) (xs ys : List Fact) → nodes_in p (xs ++ ys) ≡ nodes_in p xs ++ nodes_in p ys
nodes_in-append p xs ys = ap (map (λ (f : Fact). f.node)) (filter-append (λ (f : Fact). p f.node) xs ys) ∙ map-append (λ (f : Fact). f.node) (filter (λ (f : Fact). p f.node) xs) (filter (λ (f : Fact). p f.node) ys)

-- ---- blocks

block_nodes-plus : (file b m n : ℕ) → block_nodes file b (m + n) ≡ block_nodes file b m ++ block_nodes file (b + m) n
block_nodes-plus file b zero n = λ i. block_nodes file (right i) (left i)
  where
    left : 0 + n ≡ n
    left = omega arith

    right : b ≡ b + 0
    right = omega arith
block_nodes-plus file b (suc m) n = ap (block_nodes file b) left ∙ ap (λ ns. node.Block file b ∷ ns) (block_nodes-plus file (suc b) m n ∙ ap (λ k. block_nodes file (suc b) m ++ block_nodes file k n) right)
  where
    left : suc m + n ≡ suc (m + n)
    left = omega arith

    right : suc b + m ≡ b + suc m
    right = omega arith

group_nodes : (src : Source) (before more : List Earlier) (e : Bool) (line next : ℕ) (cs : List OpenGroups) (states : List Node) (cond : Formula) → Covers before cs → (chain_at before 0 ≡ [] → ⊥)
    → nodes_in is_block (next_group src.file next cs states cond) ≡ node.Block src.file next ∷ []
group_nodes src before more e line next [] states cond c some = absurd (some (c 0 (omega arith)))
group_nodes src before more e line next (x ∷ cs) states cond c some = refl

own_blocks : (src : Source) (touched : List (List ℕ)) (at : Standing) (line : ℕ) (w : What) (before more : List Earlier) (inside : List ℕ) → Covers before at.chains → passing (part_of w) line before ≡ Ok more
    → nodes_in is_block (fact_at src (turns_after touched) at line w) ≡ block_nodes src.file at.next (length (parent_at inside w))
own_blocks src touched at line (If c) before more inside h p = refl
own_blocks src touched at line (Elif c) before more inside h p = group_nodes src before more false line at.next at.chains _ _ h (turning_is false line before (chain_at before 0) more p).2
own_blocks src touched at line Else before more inside h p = group_nodes src before more true line at.next at.chains _ _ h (turning_is true line before (chain_at before 0) more p).2
own_blocks src touched at line Endif before more inside h p = refl
own_blocks src touched at line (Define x gives) before more inside h p = refl
own_blocks src touched at line (Undef x) before more inside h p = refl

blocks_along : (src : Source) (ds : List Directive) (touched : List (List ℕ)) (at : Standing) (before : List Earlier) (next : ℕ) (inside : List ℕ) → Covers before at.chains → is_ok (all_passing before ds) ≡ true
    → nodes_in is_block (facts_along src touched at ds) ≡ block_nodes src.file at.next (length (parents_from next inside ds))
blocks_along src [] touched at before next inside c ok = refl
blocks_along src (d ∷ ds) touched at before next inside c ok =
    let p = next_passes before d ds ok in
    let n = next_step d.what d.line at before p.0 inside c p.1 in
    nodes_in-append is_block (fact_at src (turns_after touched) at d.line d.what) (facts_along src (touched ++ touched_at d.what) (after at d.what) ds)
    ∙ ((λ i. own_blocks src touched at d.line d.what before p.0 inside c p.1 i ++ blocks_along src ds (touched ++ touched_at d.what) (after at d.what) p.0 (next_after next d.what) (open_after next inside d.what) n.covers p.2 i)
    ∙ (ap (λ k. block_nodes src.file at.next (length (parent_at inside d.what)) ++ block_nodes src.file k (length (parents_from (next_after next d.what) (open_after next inside d.what) ds))) n.next_is
    ∙ (sym (block_nodes-plus src.file at.next (length (parent_at inside d.what)) (length (parents_from (next_after next d.what) (open_after next inside d.what) ds)))
    ∙ ap (block_nodes src.file at.next) (sym (length-append (parent_at inside d.what) (parents_from (next_after next d.what) (open_after next inside d.what) ds))))))

-- ---- states

state_nodes-plus : (file k t m n : ℕ) → state_nodes file k t (m + n) ≡ state_nodes file k t m ++ state_nodes file k (t + m) n
state_nodes-plus file k t zero n = λ i. state_nodes file k (right i) (left i)
  where
    left : 0 + n ≡ n
    left = omega arith

    right : t ≡ t + 0
    right = omega arith
state_nodes-plus file k t (suc m) n = ap (state_nodes file k t) left ∙ ap (λ ns. node.State file k t ∷ ns) (state_nodes-plus file k (suc t) m n ∙ ap (λ j. state_nodes file k (suc t) m ++ state_nodes file k j n) right)
  where
    left : suc m + n ≡ suc (m + n)
    left = omega arith

    right : suc t + m ≡ t + suc m
    right = omega arith

turn_plus : (xs ys : List (List ℕ)) (name : List ℕ) → turn_of (xs ++ ys) name ≡ turn_of xs name + turn_of ys name
turn_plus xs ys name = ap length (filter-append (λ line. text_eq line name) xs ys) ∙ length-append (filter (λ line. text_eq line name) xs) (filter (λ line. text_eq line name) ys)

same_number : (n : ℕ) → eqb n n ≡ true
same_number n = grind (arith, nat_tests)

equal : (a b : ℕ) → eqb a b ≡ true → a ≡ b
equal a b e = grind (arith, nat_tests)

is_false : (b : Bool) → (b ≡ true → ⊥) → b ≡ false
is_false true h = absurd (h refl)
is_false false h = refl

module _ (file : ℕ) (all : List Directive) (name : List ℕ) (known : is_known (source_of file all) name ≡ true) where
  -- the number of the name
  abbrev number : ℕ
  number = name_in (source_of file all) name

  -- a macro line of another name gives another state
  other : (x : List ℕ) → is_known (source_of file all) x ≡ true → text_eq x name ≡ false → eqb (name_in (source_of file all) x) number ≡ false
  other x k h = is_false (eqb (name_in (source_of file all) x) number) (λ e. false≢true (sym h ∙ subst (λ y. text_eq x y ≡ true)
      (sym (place_is x (names_of all) k) ∙ (ap (λ n. get_or (names_of all) n []) (equal (name_in (source_of file all) x) number e) ∙ place_is name (names_of all) known)) (text_equiv.refl x)))

  one_state : (touched : List (List ℕ)) (x : List ℕ) (f : Fact) → is_known (source_of file all) x ≡ true → f.node ≡ node.State file (name_in (source_of file all) x) (suc (turn_of touched x))
      → nodes_in (is_state number) (f ∷ []) ≡ state_nodes file number (suc (turn_of touched name)) (turn_of (x ∷ []) name)
  one_state touched x f k own = by (text_eq x name) refl
    where
      test : is_state number f.node ≡ eqb (name_in (source_of file all) x) number
      test = ap (is_state number) own

      by : (b : Bool) → text_eq x name ≡ b → nodes_in (is_state number) (f ∷ []) ≡ state_nodes file number (suc (turn_of touched name)) (length (cond b (x ∷ []) []))
      by true e = let same : x ≡ name = text_eq-exact x name e in
          ap (λ b. map (λ (g : Fact). g.node) (cond b (f ∷ []) [])) (test ∙ (ap (λ y. eqb (name_in (source_of file all) y) number) same ∙ same_number number))
          ∙ ap (λ n. n ∷ []) (own ∙ ap (λ y. node.State file (name_in (source_of file all) y) (suc (turn_of touched y))) same)
      by false e = ap (λ b. map (λ (g : Fact). g.node) (cond b (f ∷ []) [])) (test ∙ other x k e)

  no_state : (next : ℕ) (cs : List OpenGroups) (states : List Node) (cond : Formula) → nodes_in (is_state number) (next_group file next cs states cond) ≡ []
  no_state next [] states cond = refl
  no_state next (c ∷ cs) states cond = refl

  own_states : (touched : List (List ℕ)) (at : Standing) (line : ℕ) (w : What) → Known (source_of file all) (names_at w)
      → nodes_in (is_state number) (fact_at (source_of file all) (turns_after touched) at line w) ≡ state_nodes file number (suc (turn_of touched name)) (turn_of (touched_at w) name)
  own_states touched at line (If c) k = refl
  own_states touched at line (Elif c) k = no_state at.next at.chains _ _
  own_states touched at line Else k = no_state at.next at.chains _ _
  own_states touched at line Endif k = refl
  own_states touched at line (Define x gives) k = one_state touched x _ (and_front (is_known (source_of file all) x) true k) refl
  own_states touched at line (Undef x) k = one_state touched x _ (and_front (is_known (source_of file all) x) true k) refl

  states_along : (ds : List Directive) (touched : List (List ℕ)) (at : Standing) → AllKnown (source_of file all) ds
      → nodes_in (is_state number) (facts_along (source_of file all) touched at ds) ≡ state_nodes file number (suc (turn_of touched name)) (turn_of (touched_in ds) name)
  states_along [] touched at k = refl
  states_along (d ∷ ds) touched at k =
      nodes_in-append (is_state number) (fact_at (source_of file all) (turns_after touched) at d.line d.what) (facts_along (source_of file all) (touched ++ touched_at d.what) (after at d.what) ds)
      ∙ ((λ i. own_states touched at d.line d.what (known_front (source_of file all) (names_at d.what) (flat_map (λ x. names_at x.what) ds) k) i
      ++ states_along ds (touched ++ touched_at d.what) (after at d.what) (known_back (source_of file all) (names_at d.what) (flat_map (λ x. names_at x.what) ds) k) i)
      ∙ (ap (λ t. state_nodes file number (suc (turn_of touched name)) (turn_of (touched_at d.what) name) ++ state_nodes file number t (turn_of (touched_in ds) name)) (more (turn_of (touched ++ touched_at d.what) name) (turn_of touched name) (turn_of (touched_at d.what) name) (turn_plus touched (touched_at d.what) name))
      ∙ (sym (state_nodes-plus file number (suc (turn_of touched name)) (turn_of (touched_at d.what) name) (turn_of (touched_in ds) name))
      ∙ ap (state_nodes file number (suc (turn_of touched name))) (sym (turn_plus (touched_at d.what) (touched_in ds) name)))))
    where
      more : (a b c : ℕ) → a ≡ b + c → suc a ≡ suc b + c
      more a b c e = omega (arith, e)

-- the states of the names, in order
names_along : (file : ℕ) (ds : List Directive) (k : ℕ) (ss : List StartOf) (ns : List (List ℕ)) → length ss ≡ length ns
    → ((j : ℕ) → j < length ns → (is_known (source_of file ds) (get_or ns j []) ≡ true) × (name_in (source_of file ds) (get_or ns j []) ≡ k + j))
    → map (λ (f : Fact). f.node) (states_from file (facts_along (source_of file ds) [] at_first ds) k ss) ≡ name_nodes file (touched_in ds) k ns
names_along file ds k [] [] e h = refl
names_along file ds k [] (n ∷ ns) e h = absurd (omega arith)
names_along file ds k (s ∷ ss) [] e h = absurd (omega arith)
names_along file ds k (s ∷ ss) (n ∷ ns) e h =
    map-append (λ (f : Fact). f.node) (start_fact file k s ∷ filter (λ f. is_state k f.node) (facts_along (source_of file ds) [] at_first ds)) (states_from file (facts_along (source_of file ds) [] at_first ds) (suc k) ss)
    ∙ (λ i. (node.State file k 0 ∷ own i) ++ names_along file ds (suc k) ss ns (omega arith) later i)
  where
    at : name_in (source_of file ds) n ≡ k
    at = (h 0 (omega arith)).1 ∙ plus k
      where
        plus : (k : ℕ) → k + 0 ≡ k
        plus k = omega arith

    own : nodes_in (is_state k) (facts_along (source_of file ds) [] at_first ds) ≡ state_nodes file k 1 (turn_of (touched_in ds) n)
    own = subst (λ j. nodes_in (is_state j) (facts_along (source_of file ds) [] at_first ds) ≡ state_nodes file j 1 (turn_of (touched_in ds) n)) at (states_along file ds n (h 0 (omega arith)).0 ds [] at_first (all_known file ds))

    later : (j : ℕ) → j < length ns → (is_known (source_of file ds) (get_or ns j []) ≡ true) × (name_in (source_of file ds) (get_or ns j []) ≡ suc k + j)
    later j l = let r = h (suc j) (omega arith) in (r.0, r.1 ∙ plus k j)
      where
        plus : (k j : ℕ) → k + suc j ≡ suc k + j
        plus k j = omega arith

-- the nodes of all facts
pub all_nodes : (file : ℕ) (ds : List Directive) (starts : List StartOf) (built : BuiltOf) → IsWellFormed ds → length starts ≡ length (names_of ds) → map (λ (f : Fact). f.node) (facts_of file ds starts built) ≡ nodes_of file ds
all_nodes file ds starts built formed count =
    map-append (λ (f : Fact). f.node) (file_fact file built ∷ filter (λ f. is_block f.node) (facts_along (source_of file ds) [] at_first ds)) (states_from file (facts_along (source_of file ds) [] at_first ds) 0 starts)
    ∙ (λ i. (node.Block file 0 ∷ blocks_along (source_of file ds) ds [] at_first [] 1 [] none_covered formed.chains i) ++ names_along file ds 0 starts (names_of ds) count numbers i)
  where
    numbers : (j : ℕ) → j < length (names_of ds) → (is_known (source_of file ds) (get_or (names_of ds) j []) ≡ true) × (name_in (source_of file ds) (get_or (names_of ds) j []) ≡ 0 + j)
    numbers j l = let r = name_number ds j l in (r.0, r.1 ∙ plus j)
      where
        plus : (j : ℕ) → j ≡ 0 + j
        plus j = omega arith

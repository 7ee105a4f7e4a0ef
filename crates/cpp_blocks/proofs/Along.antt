-- An assignment goes along a run, from directive to directive.
use Rattle.std.proofs.Common.{◌≡◌, ℕ, ◌+◌, ◌<◌, zero, suc, Bool, true, false, not, ◌&&◌, cond, List, [], ◌∷◌, ◌++◌, length, map, filter, get_or, refl, sym, ap, ◌∙◌, subst, arith, length-append}
use Rattle.std.specs.List.{flat_map}
use Rattle.std.proofs.Math.ListN.{get_or-append}
use Rattle.std.proofs.lemmas.List.{append-nil}
use Rattle.ut_logic.specs.declared.item.Item.{Item}
use Rattle.ut_logic.specs.declared.item.Item.TheVariants as item
use Rattle.ut_logic.specs.Facts.{Meets}
use Rattle.ut_text.specs.Text.{text_eq, text_equiv}
use Rattle.cpp_directives.specs.declared.directive.Directive.{Directive}
use Rattle.cpp_directives.specs.declared.directive.What.{What}
use Rattle.cpp_directives.specs.declared.directive.What.TheVariants.{If, Elif, Else, Endif, Define, Undef}
use Rattle.cpp_blocks.specs.declared.groups.OpenGroups.{OpenGroups}
use Rattle.cpp_blocks.specs.declared.state.MacroState.{MacroState}
use Rattle.cpp_blocks.specs.declared.state.MacroState.TheVariants.{Undefined}
use Rattle.cpp_blocks.specs.Formulas.{Source, turns_after, piece_in}
use Rattle.cpp_blocks.specs.Mentions.{names_at}
use Rattle.cpp_blocks.specs.Run.{Start, Running, OpenChain, holds, opened, turned, closed, sets, given, step, run_from}
use Rattle.cpp_blocks.specs.Solution.{states_after}
use Rattle.cpp_blocks.specs.Steps.{Standing, after, fact_at, facts_along}
use Rattle.cpp_blocks.specs.Steps as Steps
use Rattle.cpp_blocks.specs.Turns.{turn_of, touched_at}
use Rattle.cpp_blocks.proofs.CondTruth.{is_known, Known, known_front, known_back, and_front, StatesStand}
use Rattle.cpp_blocks.proofs.Meeting.{Each, met}
use Rattle.cpp_blocks.proofs.Standing.{Stands, RightGroup, RightState, Right, last_of, next_stands}
use Rattle.cpp_blocks.proofs.TurnLaws.{one_more}

-- ---- lists

pub each_front : {A : Type 0} (P : A → Type 0) (xs ys : List A) → Each P (xs ++ ys) → Each P xs
each_front P [] ys h = tt
each_front P (x ∷ xs) ys h = (h.0, each_front P xs ys h.1)

pub each_back : {A : Type 0} (P : A → Type 0) (xs ys : List A) → Each P (xs ++ ys) → Each P ys
each_back P [] ys h = h
each_back P (x ∷ xs) ys h = each_back P xs ys h.1

pub each_both : {A : Type 0} (P : A → Type 0) (xs ys : List A) → Each P xs → Each P ys → Each P (xs ++ ys)
each_both P [] ys h g = g
each_both P (x ∷ xs) ys h g = (h.0, each_both P xs ys h.1 g)

-- the names of all directives are the source's
abbrev pub AllKnown : Source → List Directive → Type 0
AllKnown src ds = Known src (flat_map (λ d. names_at d.what) ds)

-- where the directives after it lead
abbrev pub at_end : Standing → List Directive → Standing
at_end at [] = at
at_end at (d ∷ ds) = at_end (after at d.what) ds

abbrev pub touched_end : List (List ℕ) → List Directive → List (List ℕ)
touched_end touched [] = touched
touched_end touched (d ∷ ds) = touched_end (touched ++ touched_at d.what) ds

-- ---- blocks that were begun stay as they are

pushed : (bs : List Bool) (on : Bool) (b : ℕ) → b < length bs → (b < length (bs ++ on ∷ [])) × (get_or (bs ++ on ∷ []) b false ≡ get_or bs b false)
pushed bs on b h = (omega (arith, length-append bs (on ∷ [])), get_or-append bs (on ∷ []) false b h)

turn_keeps : (r : Running) (os : List OpenChain) (h : Bool) (b : ℕ) → b < length r.blocks → (b < length (turned r os h).blocks) × (get_or (turned r os h).blocks b false ≡ get_or r.blocks b false)
turn_keeps r [] h b l = (l, refl)
turn_keeps r (o ∷ os) h b l = pushed r.blocks (o.around && (not o.taken && h)) b l

close_keeps : (r : Running) (os : List OpenChain) → (closed r os).blocks ≡ r.blocks
close_keeps r [] = refl
close_keeps r (o ∷ os) = refl

step_keeps : (start : Start) (r : Running) (line : ℕ) (w : What) (b : ℕ) → b < length r.blocks → (b < length (step start r (record { line = line; what = w })).blocks) × (get_or (step start r (record { line = line; what = w })).blocks b false ≡ get_or r.blocks b false)
step_keeps start r line (If c) b l = pushed r.blocks (r.on && holds start r c) b l
step_keeps start r line (Elif c) b l = turn_keeps r r.chains (holds start r c) b l
step_keeps start r line Else b l = turn_keeps r r.chains true b l
step_keeps start r line Endif b l = (subst (λ (bs : List Bool). b < length bs) (sym (close_keeps r r.chains)) l, ap (λ (bs : List Bool). get_or bs b false) (close_keeps r r.chains))
step_keeps start r line (Define x gives) b l = (l, refl)
step_keeps start r line (Undef x) b l = (l, refl)

pub run_keeps : (start : Start) (ds : List Directive) (r : Running) (b : ℕ) → b < length r.blocks → get_or (run_from start r ds).blocks b false ≡ get_or r.blocks b false
run_keeps start [] r b l = refl
run_keeps start (d ∷ ds) r b l = let k = step_keeps start r d.line d.what b l in run_keeps start ds (step start r d) b k.0 ∙ k.1

pub run_within : (start : Start) (ds : List Directive) (r : Running) (b : ℕ) → b < length r.blocks → b < length (run_from start r ds).blocks
run_within start [] r b l = l
run_within start (d ∷ ds) r b l = run_within start ds (step start r d) b (step_keeps start r d.line d.what b l).0

-- ---- as many blocks as directives begin

turn_both : (at : Standing) (r : Running) (cs : List OpenGroups) (os : List OpenChain) (h : Bool) → length cs ≡ length os → at.chains ≡ cs → r.chains ≡ os → length r.blocks ≡ at.next
    → (length (turned r os h).blocks ≡ (Steps.turned at cs).next) × (length (Steps.turned at cs).chains ≡ length (turned r os h).chains)
turn_both at r [] [] h e f g n = (n, (λ i. length (f i)) ∙ sym (λ i. length (g i)))
turn_both at r [] (o ∷ os) h e f g n = absurd (omega arith)
turn_both at r (c ∷ cs) [] h e f g n = absurd (omega arith)
turn_both at r (c ∷ cs) (o ∷ os) h e f g n = (omega (arith, length-append r.blocks ((o.around && (not o.taken && h)) ∷ []), n), e)

close_both : (at : Standing) (r : Running) (cs : List OpenGroups) (os : List OpenChain) → length cs ≡ length os → r.chains ≡ os → length r.blocks ≡ at.next
    → (length (closed r os).blocks ≡ at.next) × (length (Steps.round cs) ≡ length (closed r os).chains)
close_both at r [] [] e g n = (n, sym (λ i. length (g i)))
close_both at r [] (o ∷ os) e g n = absurd (omega arith)
close_both at r (c ∷ cs) [] e g n = absurd (omega arith)
close_both at r (c ∷ cs) (o ∷ os) e g n = (n, omega arith)

both_step : (start : Start) (w : What) (line : ℕ) (at : Standing) (r : Running) → length r.blocks ≡ at.next → length at.chains ≡ length r.chains
    → (length (step start r (record { line = line; what = w })).blocks ≡ (after at w).next) × (length (after at w).chains ≡ length (step start r (record { line = line; what = w })).chains)
both_step start (If c) line at r n e = (omega (arith, length-append r.blocks ((r.on && holds start r c) ∷ []), n), ap suc e)
both_step start (Elif c) line at r n e = turn_both at r at.chains r.chains (holds start r c) e refl refl n
both_step start Else line at r n e = turn_both at r at.chains r.chains true e refl refl n
both_step start Endif line at r n e = close_both at r at.chains r.chains e refl n
both_step start (Define x gives) line at r n e = (n, e)
both_step start (Undef x) line at r n e = (n, e)

pub blocks_begun : (start : Start) (ds : List Directive) (at : Standing) (r : Running) → length r.blocks ≡ at.next → length at.chains ≡ length r.chains → length (run_from start r ds).blocks ≡ (at_end at ds).next
blocks_begun start [] at r n e = n
blocks_begun start (d ∷ ds) at r n e = let s = both_step start d.what d.line at r n e in blocks_begun start ds (after at d.what) (step start r d) s.0 s.1

-- ---- the states that are still to come

-- the assignment gives the states that are still to come their truths in the run
abbrev pub StatesCome : Source → Start → (Item → Bool) → List (List ℕ) → Running → List Directive → Type 0
StatesCome src start v touched r ds = (name : List ℕ) → is_known src name ≡ true → (k : ℕ) → k < length (states_after start r name ds)
    → RightState src v name (turn_of touched name + suc k) (get_or (states_after start r name ds) k Undefined)

none_below : (n : ℕ) → n < 0 → ⊥
none_below n l = omega arith

itself : (x : List ℕ) → text_eq x x ≡ true
itself x = text_equiv.refl x

-- the state after the next line of a macro
own_first : (start : Start) (r : Running) (d : Directive) (ds : List Directive) (x : List ℕ) → touched_at d.what ≡ x ∷ [] → states_after start r x (d ∷ ds) ≡ (step start r d).macros x ∷ states_after start (step start r d) x ds
own_first start r d ds x e = ap (λ ts. map (λ line. (step start r d).macros x) (filter (λ line. text_eq line x) ts) ++ states_after start (step start r d) x ds) e
    ∙ ap (λ b. map (λ line. (step start r d).macros x) (cond b (x ∷ []) []) ++ states_after start (step start r d) x ds) (itself x)

own_state : (start : Start) (r : Running) (x : List ℕ) (state : MacroState) → (sets r x state).macros x ≡ cond r.on state (r.macros x)
own_state start r x state = ap (λ b. cond (r.on && b) state (r.macros x)) (itself x) ∙ both r.on
  where
    both : (b : Bool) → cond (b && true) state (r.macros x) ≡ cond b state (r.macros x)
    both true = refl
    both false = refl

module _ (src : Source) (start : Start) (v : Item → Bool) (pieces : (text : List ℕ) (turn : ℕ) → v (item.Piece src.file (piece_in src text turn)) ≡ start.piece text turn)
    (lines : (line : ℕ) → v (item.Line src.file line) ≡ start.line line) where
  -- an assignment that meets the facts stands as the run after the next directive
  pub goes_on : (at : Standing) (touched : List (List ℕ)) (r : Running) (d : Directive) (ds : List Directive) → Stands src v at touched r → AllKnown src (d ∷ ds) → Each (Meets v) (facts_along src touched at (d ∷ ds))
      → Stands src v (after at d.what) (touched ++ touched_at d.what) (step start r d)
  goes_on at touched r d ds s known h = next_stands src start v at touched r d s
      ((met src start v pieces lines at touched r d.line d.what s (known_front src (names_at d.what) (flat_map (λ x. names_at x.what) ds) known)).to
      (each_front (Meets v) (fact_at src (turns_after touched) at d.line d.what) (facts_along src (touched ++ touched_at d.what) (after at d.what) ds) h))

  -- and so to the end
  pub stands_at_end : (ds : List Directive) (at : Standing) (touched : List (List ℕ)) (r : Running) → Stands src v at touched r → AllKnown src ds → Each (Meets v) (facts_along src touched at ds)
      → Stands src v (at_end at ds) (touched_end touched ds) (run_from start r ds)
  stands_at_end [] at touched r s known h = s
  stands_at_end (d ∷ ds) at touched r s known h = stands_at_end ds (after at d.what) (touched ++ touched_at d.what) (step start r d)
      (goes_on at touched r d ds s known h)
      (known_back src (names_at d.what) (flat_map (λ x. names_at x.what) ds) known)
      (each_back (Meets v) (fact_at src (turns_after touched) at d.line d.what) (facts_along src (touched ++ touched_at d.what) (after at d.what) ds) h)

  moved : (name : List ℕ) (m n : ℕ) (s : MacroState) → m ≡ n → RightState src v name m s → RightState src v name n s
  moved name m n s e h = subst (λ t. RightState src v name t s) e h

  -- after a line of a macro its next state comes first, and those of the others stay
  one_line : (touched : List (List ℕ)) (x name : List ℕ) (now : MacroState) (later : List MacroState) → RightState src v name (turn_of (touched ++ x ∷ []) name) now
      → ((k : ℕ) → k < length later → RightState src v name (turn_of (touched ++ x ∷ []) name + suc k) (get_or later k Undefined))
      → (k : ℕ) → k < length (map (λ (line : List ℕ). now) (filter (λ line. text_eq line name) (x ∷ [])) ++ later) → RightState src v name (turn_of touched name + suc k) (get_or (map (λ (line : List ℕ). now) (filter (λ line. text_eq line name) (x ∷ [])) ++ later) k Undefined)
  one_line touched x name now later here rest = by (text_eq x name) (one_more touched x name)
    where
      by : (b : Bool) → turn_of (touched ++ x ∷ []) name ≡ cond b (suc (turn_of touched name)) (turn_of touched name)
          → (k : ℕ) → k < length (map (λ (line : List ℕ). now) (cond b (x ∷ []) []) ++ later) → RightState src v name (turn_of touched name + suc k) (get_or (map (λ (line : List ℕ). now) (cond b (x ∷ []) []) ++ later) k Undefined)
      by true e zero l = moved name (turn_of (touched ++ x ∷ []) name) (turn_of touched name + 1) now (omega arith) here
      by true e (suc k) l = moved name (turn_of (touched ++ x ∷ []) name + suc k) (turn_of touched name + suc (suc k)) (get_or later k Undefined) (omega arith) (rest k (omega arith))
      by false e k l = moved name (turn_of (touched ++ x ∷ []) name + suc k) (turn_of touched name + suc k) (get_or later k Undefined) (omega arith) (rest k l)

  no_line : (touched : List (List ℕ)) (name : List ℕ) (later : List MacroState) → ((k : ℕ) → k < length later → RightState src v name (turn_of (touched ++ []) name + suc k) (get_or later k Undefined))
      → (k : ℕ) → k < length later → RightState src v name (turn_of touched name + suc k) (get_or later k Undefined)
  no_line touched name later rest k l = moved name (turn_of (touched ++ []) name + suc k) (turn_of touched name + suc k) (get_or later k Undefined) (ap (λ ts. turn_of ts name + suc k) (append-nil touched)) (rest k l)

  -- the states that come after a directive, where those after the next come as in the run
  come_before : (touched : List (List ℕ)) (r : Running) (d : Directive) (ds : List Directive) → StatesStand src v (touched ++ touched_at d.what) (step start r d) → StatesCome src start v (touched ++ touched_at d.what) (step start r d) ds
      → StatesCome src start v touched r (d ∷ ds)
  come_before touched r d ds stand come name known = by d.what (stand name known) (come name known)
    where
      by : (w : What) → RightState src v name (turn_of (touched ++ touched_at w) name) ((step start r (record { line = d.line; what = w })).macros name)
          → ((k : ℕ) → k < length (states_after start (step start r (record { line = d.line; what = w })) name ds) → RightState src v name (turn_of (touched ++ touched_at w) name + suc k) (get_or (states_after start (step start r (record { line = d.line; what = w })) name ds) k Undefined))
          → (k : ℕ) → k < length (states_after start r name (record { line = d.line; what = w } ∷ ds)) → RightState src v name (turn_of touched name + suc k) (get_or (states_after start r name (record { line = d.line; what = w } ∷ ds)) k Undefined)
      by (If c) here rest = no_line touched name (states_after start (step start r (record { line = d.line; what = If c })) name ds) rest
      by (Elif c) here rest = no_line touched name (states_after start (step start r (record { line = d.line; what = Elif c })) name ds) rest
      by Else here rest = no_line touched name (states_after start (step start r (record { line = d.line; what = Else })) name ds) rest
      by Endif here rest = no_line touched name (states_after start (step start r (record { line = d.line; what = Endif })) name ds) rest
      by (Define x gives) here rest = one_line touched x name ((step start r (record { line = d.line; what = Define x gives })).macros name) (states_after start (step start r (record { line = d.line; what = Define x gives })) name ds) here rest
      by (Undef x) here rest = one_line touched x name ((step start r (record { line = d.line; what = Undef x })).macros name) (states_after start (step start r (record { line = d.line; what = Undef x })) name ds) here rest

  -- an assignment that meets the facts gives the states that come their truths in the run
  pub states_come : (ds : List Directive) (at : Standing) (touched : List (List ℕ)) (r : Running) → Stands src v at touched r → AllKnown src ds → Each (Meets v) (facts_along src touched at ds) → StatesCome src start v touched r ds
  states_come [] at touched r s known h = λ name k n l. absurd (none_below n l)
  states_come (d ∷ ds) at touched r s known h = let t = goes_on at touched r d ds s known h in
      come_before touched r d ds t.states_are (states_come ds (after at d.what) (touched ++ touched_at d.what) (step start r d) t
      (known_back src (names_at d.what) (flat_map (λ x. names_at x.what) ds) known)
      (each_back (Meets v) (fact_at src (turns_after touched) at d.line d.what) (facts_along src (touched ++ touched_at d.what) (after at d.what) ds) h))

  -- ---- the other way: an assignment that is as the run meets the facts

  -- the blocks that are still to come are as in the run
  abbrev BlocksCome : Running → List Directive → Type 0
  BlocksCome r ds = (b : ℕ) → b < length (run_from start r ds).blocks → v (item.Block src.file b) ≡ get_or (run_from start r ds).blocks b false

  -- the states after the next directive come as in the run
  come_after : (touched : List (List ℕ)) (r : Running) (d : Directive) (ds : List Directive) → StatesCome src start v touched r (d ∷ ds) → StatesCome src start v (touched ++ touched_at d.what) (step start r d) ds
  come_after touched r d ds come name known = by d.what (come name known)
    where
      nothing : (later : List MacroState) → ((k : ℕ) → k < length later → RightState src v name (turn_of touched name + suc k) (get_or later k Undefined))
          → (k : ℕ) → k < length later → RightState src v name (turn_of (touched ++ []) name + suc k) (get_or later k Undefined)
      nothing later rest k l = moved name (turn_of touched name + suc k) (turn_of (touched ++ []) name + suc k) (get_or later k Undefined) (ap (λ ts. turn_of ts name + suc k) (sym (append-nil touched))) (rest k l)

      line : (x : List ℕ) (now : MacroState) (later : List MacroState)
          → ((k : ℕ) → k < length (map (λ (line : List ℕ). now) (filter (λ line. text_eq line name) (x ∷ [])) ++ later) → RightState src v name (turn_of touched name + suc k) (get_or (map (λ (line : List ℕ). now) (filter (λ line. text_eq line name) (x ∷ [])) ++ later) k Undefined))
          → (k : ℕ) → k < length later → RightState src v name (turn_of (touched ++ x ∷ []) name + suc k) (get_or later k Undefined)
      line x now later = on (text_eq x name) (one_more touched x name)
        where
          on : (b : Bool) → turn_of (touched ++ x ∷ []) name ≡ cond b (suc (turn_of touched name)) (turn_of touched name)
              → ((k : ℕ) → k < length (map (λ (line : List ℕ). now) (cond b (x ∷ []) []) ++ later) → RightState src v name (turn_of touched name + suc k) (get_or (map (λ (line : List ℕ). now) (cond b (x ∷ []) []) ++ later) k Undefined))
              → (k : ℕ) → k < length later → RightState src v name (turn_of (touched ++ x ∷ []) name + suc k) (get_or later k Undefined)
          on true e rest k l = moved name (turn_of touched name + suc (suc k)) (turn_of (touched ++ x ∷ []) name + suc k) (get_or later k Undefined) (omega arith) (rest (suc k) (omega arith))
          on false e rest k l = moved name (turn_of touched name + suc k) (turn_of (touched ++ x ∷ []) name + suc k) (get_or later k Undefined) (omega arith) (rest k l)

      by : (w : What) → ((k : ℕ) → k < length (states_after start r name (record { line = d.line; what = w } ∷ ds)) → RightState src v name (turn_of touched name + suc k) (get_or (states_after start r name (record { line = d.line; what = w } ∷ ds)) k Undefined))
          → (k : ℕ) → k < length (states_after start (step start r (record { line = d.line; what = w })) name ds) → RightState src v name (turn_of (touched ++ touched_at w) name + suc k) (get_or (states_after start (step start r (record { line = d.line; what = w })) name ds) k Undefined)
      by (If c) rest = nothing (states_after start (step start r (record { line = d.line; what = If c })) name ds) rest
      by (Elif c) rest = nothing (states_after start (step start r (record { line = d.line; what = Elif c })) name ds) rest
      by Else rest = nothing (states_after start (step start r (record { line = d.line; what = Else })) name ds) rest
      by Endif rest = nothing (states_after start (step start r (record { line = d.line; what = Endif })) name ds) rest
      by (Define x gives) rest = line x ((step start r (record { line = d.line; what = Define x gives })).macros name) (states_after start (step start r (record { line = d.line; what = Define x gives })) name ds) rest
      by (Undef x) rest = line x ((step start r (record { line = d.line; what = Undef x })).macros name) (states_after start (step start r (record { line = d.line; what = Undef x })) name ds) rest

  here : (r : Running) (bs : List Bool) (on : Bool) (next : ℕ) → length bs ≡ next → r.blocks ≡ bs ++ on ∷ [] → next < length r.blocks
  here r bs on next h e = subst (λ (xs : List Bool). next < length xs) (sym e) (omega (arith, length-append bs (on ∷ [])))

  -- a block that is begun is as the run has it in the end
  begun : (r : Running) (ds : List Directive) (bs : List Bool) (on : Bool) (next : ℕ) → length bs ≡ next → r.blocks ≡ bs ++ on ∷ [] → BlocksCome r ds → v (item.Block src.file next) ≡ on
  begun r ds bs on next h e come = come next (run_within start ds r next (here r bs on next h e)) ∙ (run_keeps start ds r next (here r bs on next h e)
      ∙ (ap (λ (xs : List Bool). get_or xs next false) e ∙ last_of bs on next h))

  group_right : (at : Standing) (touched : List (List ℕ)) (r : Running) (ds : List Directive) (h : Bool) (cs : List OpenGroups) (os : List OpenChain) → Stands src v at touched r → BlocksCome (turned r os h) ds → RightGroup src v at.next cs os h
  group_right at touched r ds h [] [] s come = tt
  group_right at touched r ds h [] (o ∷ os) s come = tt
  group_right at touched r ds h (c ∷ cs) [] s come = tt
  group_right at touched r ds h (c ∷ cs) (o ∷ os) s come = begun (turned r (o ∷ os) h) ds r.blocks (o.around && (not o.taken && h)) at.next s.next_is refl come

  state_right : (touched : List (List ℕ)) (r : Running) (d : Directive) (ds : List Directive) (x : List ℕ) (state : MacroState) → touched_at d.what ≡ x ∷ [] → step start r d ≡ sets r x state → is_known src x ≡ true
      → StatesCome src start v touched r (d ∷ ds) → RightState src v x (suc (turn_of touched x)) (cond r.on state (r.macros x))
  state_right touched r d ds x state e f known come = let all = own_first start r d ds x e in
      moved x (turn_of touched x + 1) (suc (turn_of touched x)) (cond r.on state (r.macros x)) (omega arith)
      (subst (λ (s : MacroState). RightState src v x (turn_of touched x + 1) s) (ap (λ (xs : List MacroState). get_or xs 0 Undefined) all ∙ (ap (λ (q : Running). q.macros x) f ∙ own_state start r x state))
      (come x known 0 (subst (λ (xs : List MacroState). 0 < length xs) (sym all) (omega arith))))

  right_there : (at : Standing) (touched : List (List ℕ)) (r : Running) (line : ℕ) (w : What) (ds : List Directive) → Stands src v at touched r → Known src (names_at w) → BlocksCome (step start r (record { line = line; what = w })) ds
      → StatesCome src start v touched r (record { line = line; what = w } ∷ ds) → Right src start v at touched r line w
  right_there at touched r line (If c) ds s known blocks states = begun (opened r (holds start r c)) ds r.blocks (r.on && holds start r c) at.next s.next_is refl blocks
  right_there at touched r line (Elif c) ds s known blocks states = group_right at touched r ds (holds start r c) at.chains r.chains s blocks
  right_there at touched r line Else ds s known blocks states = group_right at touched r ds true at.chains r.chains s blocks
  right_there at touched r line Endif ds s known blocks states = tt
  right_there at touched r line (Define x gives) ds s known blocks states = state_right touched r (record { line = line; what = Define x gives }) ds x (given start line gives) refl refl (and_front (is_known src x) true known) states
  right_there at touched r line (Undef x) ds s known blocks states = state_right touched r (record { line = line; what = Undef x }) ds x Undefined refl refl (and_front (is_known src x) true known) states

  -- an assignment whose blocks and states come as in the run meets the facts
  pub meets_along : (ds : List Directive) (at : Standing) (touched : List (List ℕ)) (r : Running) → Stands src v at touched r → AllKnown src ds → BlocksCome r ds → StatesCome src start v touched r ds → Each (Meets v) (facts_along src touched at ds)
  meets_along [] at touched r s known blocks states = tt
  meets_along (d ∷ ds) at touched r s known blocks states =
      let own = known_front src (names_at d.what) (flat_map (λ x. names_at x.what) ds) known in
      let right = right_there at touched r d.line d.what ds s own blocks states in
      each_both (Meets v) (fact_at src (turns_after touched) at d.line d.what) (facts_along src (touched ++ touched_at d.what) (after at d.what) ds)
      ((met src start v pieces lines at touched r d.line d.what s own).from right)
      (meets_along ds (after at d.what) (touched ++ touched_at d.what) (step start r d) (next_stands src start v at touched r d s right)
      (known_back src (names_at d.what) (flat_map (λ x. names_at x.what) ds) known) blocks (come_after touched r d ds states))

-- Where an assignment stands as a run does, and what the items of one directive are to be for it to go on so.
use Rattle.std.proofs.Common.{◌≡◌, ℕ, ◌<◌, ◌≤◌, suc, Bool, true, false, not, ◌&&◌, ◌||◌, cond, List, [], ◌∷◌, ◌++◌, length, map, get_or, refl, sym, ap, ◌∙◌, subst, arith, length-append, ◌⊎◌, inl, inr}
use Rattle.std.proofs.Math.ListN.{get_or-append}
use Rattle.std.proofs.Math.Seq.{get_or-append_seam}
use Rattle.std.proofs.lemmas.Bool.{cases_lt}
use Rattle.std.proofs.lemmas.List.{append-nil}
use Rattle.ut_logic.specs.declared.item.Item.{Item}
use Rattle.ut_logic.specs.declared.item.Item.TheVariants as item
use Rattle.ut_text.specs.Text.{text_eq, text_eq-exact}
use Rattle.ut_logic.specs.Truth.{any_true}
use Rattle.cpp_directives.specs.declared.directive.Directive.{Directive}
use Rattle.cpp_directives.specs.declared.directive.What.{What}
use Rattle.cpp_directives.specs.declared.directive.What.TheVariants.{If, Elif, Else, Endif, Define, Undef}
use Rattle.cpp_blocks.specs.declared.groups.OpenGroups.{OpenGroups}
use Rattle.cpp_blocks.specs.declared.state.MacroState.{MacroState}
use Rattle.cpp_blocks.specs.declared.state.MacroState.TheVariants.{Undefined}
use Rattle.cpp_blocks.specs.Formulas.{Source, defined_item, true_item}
use Rattle.cpp_blocks.specs.Run.{Start, Running, OpenChain, is_defined, is_true, holds, opened, turned, closed, sets, given, step}
use Rattle.cpp_blocks.specs.Steps.{Standing, current, after}
use Rattle.cpp_blocks.specs.Steps as Steps
use Rattle.cpp_blocks.specs.Turns.{turn_of, touched_at}
use Rattle.cpp_blocks.proofs.CondTruth.{StatesStand}
use Rattle.cpp_blocks.proofs.TurnLaws.{one_more}

-- whether some one of the groups is on
abbrev pub any_on : Source → (Item → Bool) → List ℕ → Bool
any_on src v groups = any_true (map (λ group. v (item.Block src.file group)) groups)

-- the open chains are as those of the run
abbrev pub ChainsStand : Source → (Item → Bool) → List OpenGroups → List OpenChain → Type 0
ChainsStand src v [] [] = Unit {0}
ChainsStand src v [] (o ∷ os) = ⊥
ChainsStand src v (c ∷ cs) [] = ⊥
ChainsStand src v (c ∷ cs) (o ∷ os) = (o.around ≡ v (item.Block src.file c.parent)) × (o.taken ≡ any_on src v (c.earlier ++ c.current ∷ [])) × (c.parent ≡ current cs) × ChainsStand src v cs os

-- the assignment stands as the run does
pub record Stands (src : Source) (v : Item → Bool) (at : Standing) (touched : List (List ℕ)) (r : Running) : Type 0 where
  pub touched_is : r.touched ≡ touched
  pub next_is : length r.blocks ≡ at.next
  pub blocks_are : (b : ℕ) → b < at.next → v (item.Block src.file b) ≡ get_or r.blocks b false
  pub on_is : r.on ≡ v (item.Block src.file (current at.chains))
  pub chains_are : ChainsStand src v at.chains r.chains
  pub states_are : StatesStand src v touched r

-- the block that the next group begins is on as in the run
abbrev pub RightGroup : Source → (Item → Bool) → ℕ → List OpenGroups → List OpenChain → Bool → Type 0
RightGroup src v next (c ∷ cs) (o ∷ os) holds = v (item.Block src.file next) ≡ (o.around && (not o.taken && holds))
RightGroup src v next cs os holds = Unit {0}

-- the state after a macro line is that of the run
abbrev pub RightState : Source → (Item → Bool) → List ℕ → ℕ → MacroState → Type 0
RightState src v name turn state = (v (defined_item src name turn) ≡ is_defined state) × (v (true_item src name turn) ≡ is_true state)

-- the items of a directive are as in the run
abbrev pub Right : Source → Start → (Item → Bool) → Standing → List (List ℕ) → Running → ℕ → What → Type 0
Right src start v at touched r line (If c) = v (item.Block src.file at.next) ≡ (r.on && holds start r c)
Right src start v at touched r line (Elif c) = RightGroup src v at.next at.chains r.chains (holds start r c)
Right src start v at touched r line Else = RightGroup src v at.next at.chains r.chains true
Right src start v at touched r line Endif = Unit {0}
Right src start v at touched r line (Define name gives) = RightState src v name (suc (turn_of touched name)) (cond r.on (given start line gives) (r.macros name))
Right src start v at touched r line (Undef name) = RightState src v name (suc (turn_of touched name)) (cond r.on Undefined (r.macros name))

-- one more block
pub last_of : (bs : List Bool) (on : Bool) (next : ℕ) → length bs ≡ next → get_or (bs ++ on ∷ []) next false ≡ on
last_of bs on next h = ap (λ k. get_or (bs ++ on ∷ []) k false) (sym h) ∙ get_or-append_seam bs on [] false

more_blocks : (src : Source) (v : Item → Bool) (next : ℕ) (bs : List Bool) (on : Bool) → length bs ≡ next → ((b : ℕ) → b < next → v (item.Block src.file b) ≡ get_or bs b false) → v (item.Block src.file next) ≡ on
    → (b : ℕ) → b < suc next → v (item.Block src.file b) ≡ get_or (bs ++ on ∷ []) b false
more_blocks src v next bs on is before here b h = by (cases_lt b next)
  where
    by : (b < next) ⊎ (next ≤ b) → v (item.Block src.file b) ≡ get_or (bs ++ on ∷ []) b false
    by (inl l) = before b l ∙ sym (get_or-append bs (on ∷ []) false b (omega arith))
    by (inr l) = let e : b ≡ next = omega arith in
        ap (λ k. v (item.Block src.file k)) e ∙ (here ∙ (sym (last_of bs on next is) ∙ ap (λ k. get_or (bs ++ on ∷ []) k false) (sym e)))

more_length : (bs : List Bool) (on : Bool) (next : ℕ) → length bs ≡ next → length (bs ++ on ∷ []) ≡ suc next
more_length bs on next h = length-append bs (on ∷ []) ∙ omega arith

-- ---- groups

any_none : (b : Bool) → b ≡ (b || false)
any_none true = refl
any_none false = refl

any_push : (src : Source) (v : Item → Bool) (groups : List ℕ) (next : ℕ) → any_on src v (groups ++ next ∷ []) ≡ (any_on src v groups || v (item.Block src.file next))
any_push src v [] next = sym (any_none (v (item.Block src.file next)))
any_push src v (g ∷ gs) next = ap (λ b. v (item.Block src.file g) || b) (any_push src v gs next) ∙ assoc (v (item.Block src.file g)) (any_on src v gs) (v (item.Block src.file next))
  where
    assoc : (a b c : Bool) → (a || (b || c)) ≡ ((a || b) || c)
    assoc true b c = refl
    assoc false b c = refl

taken_next : (taken around h : Bool) → (taken || (around && h)) ≡ (taken || (around && (not taken && h)))
taken_next true around h = refl
taken_next false around h = refl

module _ (src : Source) (start : Start) (v : Item → Bool) where
  open_stands : (at : Standing) (touched : List (List ℕ)) (r : Running) (h : Bool) → Stands src v at touched r → v (item.Block src.file at.next) ≡ (r.on && h)
      → Stands src v (record { next = suc at.next; chains = record { parent = current at.chains; earlier = []; current = at.next } ∷ at.chains }) touched (opened r h)
  open_stands at touched r h s right = record {
    touched_is = s.touched_is;
    next_is = more_length r.blocks (r.on && h) at.next s.next_is;
    blocks_are = more_blocks src v at.next r.blocks (r.on && h) s.next_is s.blocks_are right;
    on_is = sym right;
    chains_are = (s.on_is, sym right ∙ any_none (v (item.Block src.file at.next)), refl, s.chains_are);
    states_are = s.states_are;
  }

  turn_stands : (at : Standing) (touched : List (List ℕ)) (r : Running) (cs : List OpenGroups) (os : List OpenChain) (h : Bool) → Stands src v at touched r → ChainsStand src v cs os → at.chains ≡ cs → r.chains ≡ os
      → RightGroup src v at.next cs os h → Stands src v (Steps.turned at cs) touched (turned r os h)
  turn_stands at touched r [] [] h s stand e f right = s
  turn_stands at touched r [] (o ∷ os) h s stand e f right = absurd stand
  turn_stands at touched r (c ∷ cs) [] h s stand e f right = absurd stand
  turn_stands at touched r (c ∷ cs) (o ∷ os) h s stand e f right = record {
    touched_is = s.touched_is;
    next_is = more_length r.blocks (o.around && (not o.taken && h)) at.next s.next_is;
    blocks_are = more_blocks src v at.next r.blocks (o.around && (not o.taken && h)) s.next_is s.blocks_are right;
    on_is = sym right;
    chains_are = (
      stand.0,
      taken_next o.taken o.around h ∙ ((λ i. stand.1 i || sym right i) ∙ sym (any_push src v (c.earlier ++ c.current ∷ []) at.next)),
      stand.2,
      stand.3,
    );
    states_are = s.states_are;
  }

  close_stands : (at : Standing) (touched : List (List ℕ)) (r : Running) (cs : List OpenGroups) (os : List OpenChain) → Stands src v at touched r → ChainsStand src v cs os → at.chains ≡ cs → r.chains ≡ os
      → Stands src v (record at { chains = Steps.round cs }) touched (closed r os)
  close_stands at touched r [] [] s stand e f = record {
    touched_is = s.touched_is;
    next_is = s.next_is;
    blocks_are = s.blocks_are;
    on_is = s.on_is ∙ ap (λ cs. v (item.Block src.file (current cs))) e;
    chains_are = subst (ChainsStand src v []) (sym f) tt;
    states_are = s.states_are;
  }
  close_stands at touched r [] (o ∷ os) s stand e f = absurd stand
  close_stands at touched r (c ∷ cs) [] s stand e f = absurd stand
  close_stands at touched r (c ∷ cs) (o ∷ os) s stand e f = record {
    touched_is = s.touched_is;
    next_is = s.next_is;
    blocks_are = s.blocks_are;
    on_is = stand.0 ∙ ap (λ b. v (item.Block src.file b)) stand.2;
    chains_are = stand.3;
    states_are = s.states_are;
  }

  -- one more macro line
  set_states : (touched : List (List ℕ)) (r : Running) (x : List ℕ) (state : MacroState) → StatesStand src v touched r → RightState src v x (suc (turn_of touched x)) (cond r.on state (r.macros x))
      → StatesStand src v (touched ++ x ∷ []) (sets r x state)
  set_states touched r x state stand right name known = by (text_eq x name) refl
    where
      here : text_eq x name ≡ true → RightState src v name (suc (turn_of touched name)) (cond r.on state (r.macros name))
      here e = subst (λ n. RightState src v n (suc (turn_of touched n)) (cond r.on state (r.macros n))) (text_eq-exact x name e) right

      gives : Bool → ℕ → MacroState → Type 0
      gives b turn s = RightState src v name turn s

      both : (b : Bool) → cond (b && true) state (r.macros name) ≡ cond b state (r.macros name)
      both true = refl
      both false = refl

      neither : (b : Bool) → cond (b && false) state (r.macros name) ≡ r.macros name
      neither true = refl
      neither false = refl

      at_turn : (b : Bool) → text_eq x name ≡ b → turn_of (touched ++ x ∷ []) name ≡ cond b (suc (turn_of touched name)) (turn_of touched name)
      at_turn b e = one_more touched x name ∙ ap (λ c. cond c (suc (turn_of touched name)) (turn_of touched name)) e

      state_at : (b : Bool) → text_eq x name ≡ b → cond (r.on && text_eq x name) state (r.macros name) ≡ cond (r.on && b) state (r.macros name)
      state_at b e = ap (λ c. cond (r.on && c) state (r.macros name)) e

      moved : (turn turn' : ℕ) (s s' : MacroState) → turn ≡ turn' → s ≡ s' → RightState src v name turn' s' → RightState src v name turn s
      moved turn turn' s s' e f h = subst (λ t. RightState src v name t s) (sym e) (subst (λ z. RightState src v name turn' z) (sym f) h)

      by : (b : Bool) → text_eq x name ≡ b → RightState src v name (turn_of (touched ++ x ∷ []) name) (cond (r.on && text_eq x name) state (r.macros name))
      by true e = moved (turn_of (touched ++ x ∷ []) name) (suc (turn_of touched name)) (cond (r.on && text_eq x name) state (r.macros name)) (cond r.on state (r.macros name)) (at_turn true e) (state_at true e ∙ both r.on) (here e)
      by false e = moved (turn_of (touched ++ x ∷ []) name) (turn_of touched name) (cond (r.on && text_eq x name) state (r.macros name)) (r.macros name) (at_turn false e) (state_at false e ∙ neither r.on) (stand name known)

  set_stands : (at : Standing) (touched : List (List ℕ)) (r : Running) (x : List ℕ) (state : MacroState) → Stands src v at touched r → RightState src v x (suc (turn_of touched x)) (cond r.on state (r.macros x))
      → Stands src v at (touched ++ x ∷ []) (sets r x state)
  set_stands at touched r x state s right = record {
    touched_is = ap (λ ts. ts ++ x ∷ []) s.touched_is;
    next_is = s.next_is;
    blocks_are = s.blocks_are;
    on_is = s.on_is;
    chains_are = s.chains_are;
    states_are = set_states touched r x state s.states_are right;
  }

  same_touched : (at : Standing) (touched : List (List ℕ)) (r : Running) → Stands src v at touched r → Stands src v at (touched ++ []) r
  same_touched at touched r s = subst (λ ts. Stands src v at ts r) (sym (append-nil touched)) s

  -- where the items of a directive are as in the run, the assignment stands as the run after it
  pub next_stands : (at : Standing) (touched : List (List ℕ)) (r : Running) (d : Directive) → Stands src v at touched r → Right src start v at touched r d.line d.what
      → Stands src v (after at d.what) (touched ++ touched_at d.what) (step start r d)
  next_stands at touched r d s right = by d.what right
    where
      by : (w : What) → Right src start v at touched r d.line w → Stands src v (after at w) (touched ++ touched_at w) (step start r (record { line = d.line; what = w }))
      by (If c) right = same_touched _ touched _ (open_stands at touched r (holds start r c) s right)
      by (Elif c) right = same_touched _ touched _ (turn_stands at touched r at.chains r.chains (holds start r c) s s.chains_are refl refl right)
      by Else right = same_touched _ touched _ (turn_stands at touched r at.chains r.chains true s s.chains_are refl refl right)
      by Endif right = same_touched _ touched _ (close_stands at touched r at.chains r.chains s s.chains_are refl refl)
      by (Define x gives) right = set_stands at touched r x (given start d.line gives) s right
      by (Undef x) right = set_stands at touched r x Undefined s right

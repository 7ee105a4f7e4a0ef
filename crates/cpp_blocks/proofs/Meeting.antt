-- An assignment that stands as a run meets the fact of the next directive exactly where its items are as in the run.
use Rattle.std.proofs.Common.{◌≡◌, ℕ, zero, suc, Bool, true, false, not, ◌&&◌, ◌||◌, cond, List, [], ◌∷◌, ◌++◌, map, refl, sym, ap, ◌∙◌, arith}
use Rattle.std.specs.List.{All}
use Rattle.ut_logic.specs.declared.item.Item.{Item}
use Rattle.ut_logic.specs.declared.item.Item.TheVariants as item
use Rattle.ut_logic.specs.declared.node.Node.{Node}
use Rattle.ut_logic.specs.declared.formula.Formula.{Formula}
use Rattle.ut_logic.specs.declared.formula.Formula.TheVariants.{Yes, Is}
use Rattle.ut_logic.specs.Fold.{not_of, all_of}
use Rattle.ut_logic.specs.Facts.{IsDefined, Meets}
use Rattle.ut_logic.specs.Truth.{truth, truths, all_true}
use Rattle.ut_logic.proofs.FoldLaws.{truth-Yes, truth-No, truth-Is, truth-not_of, truth-all_of, truth-any_of}
use Rattle.cpp_directives.specs.declared.directive.Gives.{Gives}
use Rattle.cpp_directives.specs.declared.directive.Gives.TheVariants.{Zero, Nonzero, Free}
use Rattle.cpp_directives.specs.declared.directive.What.{What}
use Rattle.cpp_directives.specs.declared.directive.What.TheVariants.{If, Elif, Else, Endif, Define, Undef}
use Rattle.cpp_blocks.specs.declared.groups.OpenGroups.{OpenGroups}
use Rattle.cpp_blocks.specs.declared.state.MacroState.{MacroState}
use Rattle.cpp_blocks.specs.declared.state.MacroState.TheVariants.{Undefined, DefinedFalse, DefinedTrue}
use Rattle.cpp_blocks.specs.Formulas.{Source, turns_after, piece_in, defined_item, true_item, formula_of, states_in}
use Rattle.cpp_blocks.specs.Mentions.{names_at}
use Rattle.cpp_blocks.specs.Run.{Start, Running, OpenChain, is_defined, is_true, holds, given}
use Rattle.cpp_blocks.specs.Steps.{Standing, current, group_formula, group_fact, next_group, given_truth, given_items, state_fact, define_fact, undef_fact, fact_at}
use Rattle.cpp_blocks.specs.Turns.{turn_of}
use Rattle.cpp_blocks.proofs.CondTruth.{is_known, Known, and_front, truth-formula_of}
use Rattle.cpp_blocks.proofs.Standing.{any_on, ChainsStand, Stands, RightGroup, RightState, Right}

-- P holds of each member
abbrev pub Each : {A : Type 0} → (A → Type 0) → List A → Type 0
Each P [] = Unit {0}
Each P (x ∷ xs) = P x × Each P xs

pub each_of : {A : Type 0} (P : A → Type 0) (xs : List A) → All P xs → Each P xs
each_of P [] h = tt
each_of P (x ∷ xs) h = (h 0 x (omega arith), each_of P xs (λ k d l. h (suc k) d (omega arith)))

pub all_of_each : {A : Type 0} (P : A → Type 0) (xs : List A) → Each P xs → All P xs
all_of_each P [] h k d l = absurd (omega arith)
all_of_each P (x ∷ xs) h zero d l = h.0
all_of_each P (x ∷ xs) h (suc k) d l = all_of_each P xs h.1 k d (omega arith)

-- each follows from the other
pub record Same (A B : Type 0) : Type 0 where
  pub to : A → B
  pub from : B → A

and_true : (b : Bool) → (b && true) ≡ b
and_true true = refl
and_true false = refl

or_false : (b : Bool) → (b || false) ≡ b
or_false true = refl
or_false false = refl

-- ---- groups

turn_truth : (src : Source) (v : Item → Bool) (earlier : List ℕ) (f : Formula) → all_true (truths v (map (λ group. not_of (Is (item.Block src.file group))) earlier ++ f ∷ [])) ≡ (not (any_on src v earlier) && truth v f)
turn_truth src v [] f = and_true (truth v f)
turn_truth src v (g ∷ gs) f = (λ i. (truth-not_of v (Is (item.Block src.file g)) ∙ ap not (truth-Is v (item.Block src.file g))) i && turn_truth src v gs f i) ∙ both (v (item.Block src.file g)) (any_on src v gs) (truth v f)
  where
    both : (a b t : Bool) → (not a && (not b && t)) ≡ (not (a || b) && t)
    both true b t = refl
    both false b t = refl

group_truth : (src : Source) (v : Item → Bool) (parent : ℕ) (earlier : List ℕ) (f : Formula) → truth v (group_formula src.file parent earlier f) ≡ (v (item.Block src.file parent) && (not (any_on src v earlier) && truth v f))
group_truth src v parent earlier f = truth-all_of v (Is (item.Block src.file parent) ∷ map (λ group. not_of (Is (item.Block src.file group))) earlier ++ f ∷ [])
    ∙ (λ i. truth-Is v (item.Block src.file parent) i && turn_truth src v earlier f i)

-- the fact of a group is met where its block is as its formula says
group_met : (src : Source) (v : Item → Bool) (block parent : ℕ) (earlier : List ℕ) (states : List Node) (f : Formula) (on : Bool)
    → (v (item.Block src.file parent) && (not (any_on src v earlier) && truth v f)) ≡ on → Same (Each (Meets v) (group_fact src.file block parent earlier states f ∷ [])) (v (item.Block src.file block) ≡ on)
group_met src v block parent earlier states f on e = record {
  to = λ h. (each_of (IsDefined v) (record { item = item.Block src.file block; formula = group_formula src.file parent earlier f } ∷ []) h.0.defined).0 ∙ (group_truth src v parent earlier f ∙ e);
  from = λ h. (
    record {
      held = refl;
      defined = all_of_each (IsDefined v) (record { item = item.Block src.file block; formula = group_formula src.file parent earlier f } ∷ []) (h ∙ (sym e ∙ sym (group_truth src v parent earlier f)), tt);
    },
    tt,
  );
}

next_met : (src : Source) (v : Item → Bool) (next : ℕ) (cs : List OpenGroups) (os : List OpenChain) (states : List Node) (f : Formula) (h : Bool) → ChainsStand src v cs os → truth v f ≡ h
    → Same (Each (Meets v) (next_group src.file next cs states f)) (RightGroup src v next cs os h)
next_met src v next [] [] states f h stand e = record { to = λ x. tt; from = λ x. tt }
next_met src v next [] (o ∷ os) states f h stand e = absurd stand
next_met src v next (c ∷ cs) [] states f h stand e = absurd stand
next_met src v next (c ∷ cs) (o ∷ os) states f h stand e = group_met src v next c.parent (c.earlier ++ c.current ∷ []) states f (o.around && (not o.taken && h))
    (λ i. sym stand.0 i && (not (sym stand.1 i) && e i))

-- ---- macro lines

state_met : (src : Source) (v : Item → Bool) (name : List ℕ) (turn block : ℕ) (d t : Formula) (items : List Item) (state : MacroState) → truth v d ≡ is_defined state → truth v t ≡ is_true state
    → Same (Each (Meets v) (state_fact src name turn block d t items ∷ [])) (RightState src v name (suc turn) state)
state_met src v name turn block d t items state e f = record {
  to = λ h. let met = each_of (IsDefined v) (record { item = defined_item src name (suc turn); formula = d } ∷ record { item = true_item src name (suc turn); formula = t } ∷ []) h.0.defined in (met.0 ∙ e, met.1.0 ∙ f);
  from = λ h. (
    record {
      held = refl;
      defined = all_of_each (IsDefined v) (record { item = defined_item src name (suc turn); formula = d } ∷ record { item = true_item src name (suc turn); formula = t } ∷ []) (h.0 ∙ sym e, (h.1 ∙ sym f, tt));
    },
    tt,
  );
}

set_defined : (on : Bool) (s m : MacroState) → is_defined s ≡ true → (on || (is_defined m || false)) ≡ is_defined (cond on s m)
set_defined true s m h = sym h
set_defined false s m h = or_false (is_defined m)

set_true : (on g : Bool) (s m : MacroState) → is_true s ≡ g → ((on && (g && true)) || ((not on && (is_true m && true)) || false)) ≡ is_true (cond on s m)
set_true true g s m h = or_false (g && true) ∙ (and_true g ∙ sym h)
set_true false g s m h = or_false (is_true m && true) ∙ and_true (is_true m)

unset_defined : (on : Bool) (m : MacroState) → (not on && (is_defined m && true)) ≡ is_defined (cond on Undefined m)
unset_defined true m = refl
unset_defined false m = and_true (is_defined m)

unset_true : (on : Bool) (m : MacroState) → (not on && (is_true m && true)) ≡ is_true (cond on Undefined m)
unset_true true m = refl
unset_true false m = and_true (is_true m)

module _ (src : Source) (start : Start) (v : Item → Bool) (pieces : (text : List ℕ) (turn : ℕ) → v (item.Piece src.file (piece_in src text turn)) ≡ start.piece text turn)
    (lines : (line : ℕ) → v (item.Line src.file line) ≡ start.line line) where
  given_defined : (line : ℕ) (gives : Gives) → is_defined (given start line gives) ≡ true
  given_defined line Zero = refl
  given_defined line Nonzero = refl
  given_defined line Free = by (start.line line)
    where
      by : (b : Bool) → is_defined (cond b DefinedTrue DefinedFalse) ≡ true
      by true = refl
      by false = refl

  given_true : (line : ℕ) (gives : Gives) → is_true (given start line gives) ≡ truth v (given_truth src.file line gives)
  given_true line Zero = sym (truth-No v)
  given_true line Nonzero = sym (truth-Yes v)
  given_true line Free = by (start.line line) ∙ (sym (lines line) ∙ sym (truth-Is v (item.Line src.file line)))
    where
      by : (b : Bool) → is_true (cond b DefinedTrue DefinedFalse) ≡ b
      by true = refl
      by false = refl

  off_truth : (block : ℕ) → truth v (not_of (Is (item.Block src.file block))) ≡ not (v (item.Block src.file block))
  off_truth block = truth-not_of v (Is (item.Block src.file block)) ∙ ap not (truth-Is v (item.Block src.file block))

  define_met : (name : List ℕ) (turn block line : ℕ) (gives : Gives) (on : Bool) (m : MacroState) → v (item.Block src.file block) ≡ on → RightState src v name turn m
      → Same (Each (Meets v) (define_fact src name turn block line gives ∷ [])) (RightState src v name (suc turn) (cond on (given start line gives) m))
  define_met name turn block line gives on m o s = state_met src v name turn block _ _ (given_items src.file line gives) (cond on (given start line gives) m)
      (truth-any_of v (Is (item.Block src.file block) ∷ Is (defined_item src name turn) ∷ [])
      ∙ ((λ i. (truth-Is v (item.Block src.file block) ∙ o) i || ((truth-Is v (defined_item src name turn) ∙ s.0) i || false)) ∙ set_defined on (given start line gives) m (given_defined line gives)))
      (truth-any_of v (all_of (Is (item.Block src.file block) ∷ given_truth src.file line gives ∷ []) ∷ all_of (not_of (Is (item.Block src.file block)) ∷ Is (true_item src name turn) ∷ []) ∷ [])
      ∙ ((λ i. (truth-all_of v (Is (item.Block src.file block) ∷ given_truth src.file line gives ∷ []) ∙ (λ j. (truth-Is v (item.Block src.file block) ∙ o) j && (truth v (given_truth src.file line gives) && true))) i
      || ((truth-all_of v (not_of (Is (item.Block src.file block)) ∷ Is (true_item src name turn) ∷ []) ∙ (λ j. (off_truth block ∙ ap not o) j && ((truth-Is v (true_item src name turn) ∙ s.1) j && true))) i || false))
      ∙ set_true on (truth v (given_truth src.file line gives)) (given start line gives) m (given_true line gives)))

  undef_met : (name : List ℕ) (turn block : ℕ) (on : Bool) (m : MacroState) → v (item.Block src.file block) ≡ on → RightState src v name turn m
      → Same (Each (Meets v) (undef_fact src name turn block ∷ [])) (RightState src v name (suc turn) (cond on Undefined m))
  undef_met name turn block on m o s = state_met src v name turn block _ _ [] (cond on Undefined m)
      (truth-all_of v (not_of (Is (item.Block src.file block)) ∷ Is (defined_item src name turn) ∷ [])
      ∙ ((λ j. (off_truth block ∙ ap not o) j && ((truth-Is v (defined_item src name turn) ∙ s.0) j && true)) ∙ unset_defined on m))
      (truth-all_of v (not_of (Is (item.Block src.file block)) ∷ Is (true_item src name turn) ∷ [])
      ∙ ((λ j. (off_truth block ∙ ap not o) j && ((truth-Is v (true_item src name turn) ∙ s.1) j && true)) ∙ unset_true on m))

  -- the facts of a directive are met exactly where its items are as in the run
  pub met : (at : Standing) (touched : List (List ℕ)) (r : Running) (line : ℕ) (w : What) → Stands src v at touched r → Known src (names_at w)
      → Same (Each (Meets v) (fact_at src (turns_after touched) at line w)) (Right src start v at touched r line w)
  met at touched r line (If c) s known = group_met src v at.next (current at.chains) [] (states_in src (turns_after touched) c) (formula_of src (turns_after touched) c) (r.on && holds start r c)
      (λ i. sym s.on_is i && truth-formula_of src start v pieces touched r s.touched_is s.states_are c known i)
  met at touched r line (Elif c) s known = next_met src v at.next at.chains r.chains (states_in src (turns_after touched) c) (formula_of src (turns_after touched) c) (holds start r c) s.chains_are
      (truth-formula_of src start v pieces touched r s.touched_is s.states_are c known)
  met at touched r line Else s known = next_met src v at.next at.chains r.chains [] Yes true s.chains_are (truth-Yes v)
  met at touched r line Endif s known = record { to = λ x. tt; from = λ x. tt }
  met at touched r line (Define x gives) s known = define_met x (turn_of touched x) (current at.chains) line gives r.on (r.macros x) (sym s.on_is) (s.states_are x (and_front (is_known src x) true known))
  met at touched r line (Undef x) s known = undef_met x (turn_of touched x) (current at.chains) r.on (r.macros x) (sym s.on_is) (s.states_are x (and_front (is_known src x) true known))

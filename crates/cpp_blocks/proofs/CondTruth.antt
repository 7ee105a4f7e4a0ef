-- Where the states stand as in a run, the formula of a condition has the condition's truth there.
use Rattle.std.proofs.Common.{◌≡◌, ℕ, Bool, true, false, not, ◌&&◌, ◌||◌, List, [], ◌∷◌, ◌++◌, refl, sym, ap, ◌∙◌, subst, map}
use Rattle.std.specs.List.{list_any, list_all, flat_map}
use Rattle.std.proofs.lemmas.Bool.{false≢true}
use Rattle.std.proofs.lemmas.List.Folds.{list_all-append}
use Rattle.ut_logic.specs.declared.item.Item.{Item}
use Rattle.ut_logic.specs.declared.item.Item.TheVariants as item
use Rattle.ut_logic.specs.declared.formula.Formula.{Formula}
use Rattle.ut_text.specs.Text.{text_eq}
use Rattle.ut_logic.specs.Truth.{truth, truths, all_true, any_true}
use Rattle.ut_logic.proofs.FoldLaws.{truth-Yes, truth-No, truth-Is, truth-not_of, truth-all_of, truth-any_of}
use Rattle.cpp_directives.specs.declared.condition.Cond.{Cond}
use Rattle.cpp_directives.specs.declared.condition.Cond.TheOpen.{Cond-F}
use Rattle.cpp_directives.specs.declared.condition.Cond.TheFolds.{fold-roll-Cond, ind-Cond, map-Cond}
use Rattle.cpp_directives.specs.declared.condition.Cond.TheViews.{roll-Cond}
use Rattle.cpp_blocks.specs.Formulas.{Source, turns_after, piece_in, defined_item, true_item, formula_step, formula_of}
use Rattle.cpp_blocks.specs.Mentions.{names_step, names_in}
use Rattle.cpp_blocks.specs.Run.{Start, Running, is_defined, is_true, cond_step, holds, touches}
use Rattle.cpp_blocks.specs.Turns.{turn_of}

-- the name is one of the source's
abbrev pub is_known : Source → List ℕ → Bool
is_known src name = list_any (text_eq name) src.names

-- each of the names is
abbrev pub Known : Source → List (List ℕ) → Type 0
Known src names = list_all (is_known src) names ≡ true

-- after these macro lines each macro has the state of the run
abbrev pub StatesStand : Source → (Item → Bool) → List (List ℕ) → Running → Type 0
StatesStand src v touched r = (name : List ℕ) → is_known src name ≡ true
    → (v (defined_item src name (turn_of touched name)) ≡ is_defined (r.macros name)) × (v (true_item src name (turn_of touched name)) ≡ is_true (r.macros name))

pub and_front : (a b : Bool) → (a && b) ≡ true → a ≡ true
and_front true b h = refl
and_front false b h = h

pub and_back : (a b : Bool) → (a && b) ≡ true → b ≡ true
and_back true b h = h
and_back false b h = absurd (false≢true h)

pub known_front : (src : Source) (xs ys : List (List ℕ)) → Known src (xs ++ ys) → Known src xs
known_front src xs ys h = and_front (list_all (is_known src) xs) (list_all (is_known src) ys) (sym (list_all-append (is_known src) xs ys) ∙ h)

pub known_back : (src : Source) (xs ys : List (List ℕ)) → Known src (xs ++ ys) → Known src ys
known_back src xs ys h = and_back (list_all (is_known src) xs) (list_all (is_known src) ys) (sym (list_all-append (is_known src) xs ys) ∙ h)

all_same : (bs : List Bool) → all_true bs ≡ list_all (λ b. b) bs
all_same [] = refl
all_same (b ∷ bs) = ap (λ c. b && c) (all_same bs)

any_same : (bs : List Bool) → any_true bs ≡ list_any (λ b. b) bs
any_same [] = refl
any_same (b ∷ bs) = ap (λ c. b || c) (any_same bs)

module _ (src : Source) (start : Start) (v : Item → Bool) (pieces : (text : List ℕ) (turn : ℕ) → v (item.Piece src.file (piece_in src text turn)) ≡ start.piece text turn)
    (touched : List (List ℕ)) (r : Running) (same : r.touched ≡ touched) (states : StatesStand src v touched r) where
  each : (ps : List ((c : Cond) × (Known src (names_in c) → truth v (formula_of src (turns_after touched) c) ≡ holds start r c))) → Known src (flat_map (λ names. names) (map names_in (map (λ p. p.0) ps)))
      → truths v (map (formula_of src (turns_after touched)) (map (λ p. p.0) ps)) ≡ map (holds start r) (map (λ p. p.0) ps)
  each [] k = refl
  each (p ∷ ps) k = let rest : List (List ℕ) = flat_map (λ names. names) (map names_in (map (λ p. p.0) ps)) in
      λ i. p.1 (known_front src (names_in p.0) rest k) i ∷ each ps (known_back src (names_in p.0) rest k) i

  constant : (b : Bool) → truth v (formula_step src (turns_after touched) (Cond-F.Const b)) ≡ b
  constant true = truth-Yes v
  constant false = truth-No v

  one_layer : (y : Cond-F ((c : Cond) × (Known src (names_in c) → truth v (formula_of src (turns_after touched) c) ≡ holds start r c)))
      → Known src (names_step (map-Cond Cond (List (List ℕ)) names_in (map-Cond _ Cond (λ p. p.0) y)))
      → truth v (formula_step src (turns_after touched) (map-Cond Cond Formula (formula_of src (turns_after touched)) (map-Cond _ Cond (λ p. p.0) y))) ≡ cond_step start r (map-Cond Cond Bool (holds start r) (map-Cond _ Cond (λ p. p.0) y))
  one_layer (Cond-F.Const b) k = constant b
  one_layer (Cond-F.Defined name) k = truth-Is v (defined_item src name (turn_of touched name)) ∙ (states name (and_front (is_known src name) true k)).0
  one_layer (Cond-F.Plain name) k = truth-Is v (true_item src name (turn_of touched name)) ∙ (states name (and_front (is_known src name) true k)).1
  one_layer (Cond-F.Piece text) k = truth-Is v (item.Piece src.file (piece_in src text (touches touched text))) ∙ (pieces text (touches touched text) ∙ ap (λ ts. start.piece text (touches ts text)) (sym same))
  one_layer (Cond-F.Neg p) k = truth-not_of v (formula_of src (turns_after touched) p.0) ∙ ap not (p.1 k)
  one_layer (Cond-F.AllOf ps) k = truth-all_of v (map (formula_of src (turns_after touched)) (map (λ p. p.0) ps)) ∙ (ap all_true (each ps k) ∙ all_same (map (holds start r) (map (λ p. p.0) ps)))
  one_layer (Cond-F.AnyOf ps) k = truth-any_of v (map (formula_of src (turns_after touched)) (map (λ p. p.0) ps)) ∙ (ap any_true (each ps k) ∙ any_same (map (holds start r) (map (λ p. p.0) ps)))

  rolled : (x : Cond-F Cond) → (Known src (names_step (map-Cond Cond (List (List ℕ)) names_in x)) → truth v (formula_step src (turns_after touched) (map-Cond Cond Formula (formula_of src (turns_after touched)) x)) ≡ cond_step start r (map-Cond Cond Bool (holds start r) x))
      → Known src (names_in (roll-Cond x)) → truth v (formula_of src (turns_after touched) (roll-Cond x)) ≡ holds start r (roll-Cond x)
  rolled x h k = ap (truth v) (fold-roll-Cond Formula (formula_step src (turns_after touched)) x) ∙ (h (subst (Known src) (fold-roll-Cond (List (List ℕ)) names_step x) k) ∙ sym (fold-roll-Cond Bool (cond_step start r) x))

  -- the formula of a condition over known names has its truth
  pub truth-formula_of : (c : Cond) → Known src (names_in c) → truth v (formula_of src (turns_after touched) c) ≡ holds start r c
  truth-formula_of = ind-Cond (λ c. Known src (names_in c) → truth v (formula_of src (turns_after touched) c) ≡ holds start r c)
      (λ x y is. rolled x (subst (λ (z : Cond-F Cond). Known src (names_step (map-Cond Cond (List (List ℕ)) names_in z)) → truth v (formula_step src (turns_after touched) (map-Cond Cond Formula (formula_of src (turns_after touched)) z)) ≡ cond_step start r (map-Cond Cond Bool (holds start r) z)) is (one_layer y)))

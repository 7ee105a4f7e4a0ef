-- The formulas of a symbol are true exactly where it has one value and is right.
use Rattle.std.proofs.Common.{◌≡◌, ℕ, ◌==◌, Bool, true, false, not, ◌&&◌, cond, [], ◌∷◌, refl, ◌∙◌}
use Rattle.ut_logic.specs.declared.item.Item.{Item}
use Rattle.ut_logic.specs.declared.item.Item.TheVariants.{SymY, SymM}
use Rattle.ut_logic.specs.declared.formula.Formula.{Formula}
use Rattle.ut_logic.specs.declared.formula.Formula.TheVariants.{Is}
use Rattle.ut_logic.specs.Fold.{not_of}
use Rattle.ut_logic.specs.Truth.{truth, truths, all_true, any_true}
use Rattle.ut_logic.proofs.FoldLaws.{truth-Is, truth-any_of, truth-not_of}
use Rattle.kconf_tree.specs.declared.shape.Counts.{Counts}
use Rattle.kconf_tree.specs.declared.shape.Counts.TheVariants as counts
use Rattle.kconf_tree.specs.Shape.{counts_as}
use Rattle.kconf_tree.specs.Value.{Configuration, has_modules, stands_for}
use Rattle.kconf_tree.specs.Right.{is_settled, is_right}
use Rattle.kconf_constr.specs.Scope.{Scope}
use Rattle.kconf_constr.specs.Levels.{modules_formula}
use Rattle.kconf_constr.specs.Stands.{read_off, value_as, has_one_as, has_one_value}
use Rattle.kconf_constr.specs.SymbolFormulas.{Properties, properties_of, base_holds, holds_as, non_member_holds}
use Rattle.kconf_constr.proofs.Tables.{same_bool, same_bool_is}
use Rattle.kconf_constr.proofs.ValueLaws.{Stands, modules_truth}
use Rattle.kconf_constr.proofs.PropertyLaws.{own_stands, visibility_stands, reverse_stands, default_stands, Table, fills, by_table}

-- the formulas, and the numbers that they stand for
pub record PropertiesStand (v : Item → Bool) (l : Properties) (own vis rev def : ℕ) : Type 0 where
  pub of_own : Stands v l.own own
  pub of_vis : Stands v l.vis vis
  pub of_rev : Stands v l.rev rev
  pub of_def : Stands v l.def def

-- the three formulas as a test on numbers
abbrev base_test : ℕ → ℕ → ℕ → ℕ → Bool
base_test x a r d = all_true (any_true (not (not (r == 0)) ∷ not (x == 0) ∷ [])
    ∷ any_true (not (not (x == 0)) ∷ not (a == 0) ∷ not (d == 0) ∷ not (r == 0) ∷ [])
    ∷ any_true (not (a == 0) ∷ not (not (d == 0)) ∷ not (x == 0) ∷ [])
    ∷ [])

base_truth : (v : Item → Bool) (l : Properties) (x a r d : ℕ) → PropertiesStand v l x a r d → all_true (truths v (base_holds l)) ≡ base_test x a r d
base_truth v l x a r d s = rw (
  truth-any_of v (not_of l.rev.not_n ∷ l.own.not_n ∷ []),
  truth-any_of v (not_of l.own.not_n ∷ l.vis.not_n ∷ l.def.not_n ∷ l.rev.not_n ∷ []),
  truth-any_of v (l.vis.not_n ∷ not_of l.def.not_n ∷ l.own.not_n ∷ []),
  truth-not_of v l.rev.not_n,
  truth-not_of v l.own.not_n,
  truth-not_of v l.def.not_n,
  s.of_own.not_n,
  s.of_vis.not_n,
  s.of_rev.not_n,
  s.of_def.not_n,
) refl

-- ---- bool: by trying every value of each

abbrev bool_left : (on : Bool) → Table
bool_left on y a r d = same_bool (base_test (cond y 2 0) a r d) (is_settled counts.Bool on a r d (cond y 2 0))

bool_table : (on : Bool) → fills (bool_left on) ≡ true
bool_table true = refl
bool_table false = refl

-- ---- tristate

abbrev tristate_test : Bool → Bool → Bool → ℕ → ℕ → ℕ → Bool
tristate_test y m on a r d = all_true (any_true (not y ∷ not m ∷ [])
    ∷ any_true (not m ∷ on ∷ [])
    ∷ any_true (not (not (r == 0)) ∷ not (cond y 2 (cond m 1 0) == 0) ∷ [])
    ∷ any_true (not (not (cond y 2 (cond m 1 0) == 0)) ∷ not (a == 0) ∷ not (d == 0) ∷ not (r == 0) ∷ [])
    ∷ any_true (not (a == 0) ∷ not (not (d == 0)) ∷ not (cond y 2 (cond m 1 0) == 0) ∷ [])
    ∷ any_true (not (r == 2) ∷ y ∷ [])
    ∷ any_true (not y ∷ (a == 2) ∷ (d == 2) ∷ (r == 2) ∷ not on ∷ [])
    ∷ any_true (not (a == 0) ∷ not (d == 2) ∷ y ∷ [])
    ∷ [])

tristate_truth : (v : Item → Bool) (f : Formula) (on : Bool) (k : ℕ) (l : Properties) (a r d : ℕ) → truth v f ≡ on → PropertiesStand v l (cond (v (SymY k)) 2 (cond (v (SymM k)) 1 0)) a r d → all_true (truths v (holds_as counts.Tristate f k l)) ≡ tristate_test (v (SymY k)) (v (SymM k)) on a r d
tristate_truth v f on k l a r d e s = rw (
  truth-any_of v (not_of (Is (SymY k)) ∷ not_of (Is (SymM k)) ∷ []),
  truth-any_of v (not_of (Is (SymM k)) ∷ f ∷ []),
  truth-any_of v (not_of l.rev.not_n ∷ l.own.not_n ∷ []),
  truth-any_of v (not_of l.own.not_n ∷ l.vis.not_n ∷ l.def.not_n ∷ l.rev.not_n ∷ []),
  truth-any_of v (l.vis.not_n ∷ not_of l.def.not_n ∷ l.own.not_n ∷ []),
  truth-any_of v (not_of l.rev.is_y ∷ Is (SymY k) ∷ []),
  truth-any_of v (not_of (Is (SymY k)) ∷ l.vis.is_y ∷ l.def.is_y ∷ l.rev.is_y ∷ not_of f ∷ []),
  truth-any_of v (l.vis.not_n ∷ not_of l.def.is_y ∷ Is (SymY k) ∷ []),
  truth-not_of v (Is (SymY k)),
  truth-not_of v (Is (SymM k)),
  truth-not_of v l.rev.not_n,
  truth-not_of v l.own.not_n,
  truth-not_of v l.def.not_n,
  truth-not_of v l.rev.is_y,
  truth-not_of v l.def.is_y,
  truth-not_of v f,
  truth-Is v (SymY k),
  truth-Is v (SymM k),
  e,
  s.of_own.not_n,
  s.of_vis.not_n,
  s.of_rev.not_n,
  s.of_def.not_n,
  s.of_vis.is_y,
  s.of_rev.is_y,
  s.of_def.is_y,
) refl

abbrev tristate_left : (y m : Bool) → Table
tristate_left y m on a r d = same_bool (tristate_test y m on a r d) (not (y && m) && is_settled counts.Tristate on a r d (cond y 2 (cond m 1 0)))

tristate_table : (y m : Bool) → fills (tristate_left y m) ≡ true
tristate_table true true = refl
tristate_table true false = refl
tristate_table false true = refl
tristate_table false false = refl

-- ---- one symbol

module _ (s : Scope) (v : Item → Bool) where
  abbrev c : Configuration
  c = read_off s v

  by_kind : (kind : Counts) (on : Bool) (k : ℕ) (l : Properties) (a r d : ℕ) → truth v (modules_formula s.shape.modules) ≡ on → PropertiesStand v l (stands_for kind (value_as kind v k)) a r d
      → all_true (truths v (holds_as kind (modules_formula s.shape.modules) k l)) ≡ (has_one_as kind v k && is_settled kind on a r d (value_as kind v k))
  by_kind counts.Bool on k l a r d e h = base_truth v l (cond (v (SymY k)) 2 0) a r d h ∙ same_bool_is _ _ (by_table (bool_left on) (bool_table on) (v (SymY k)) a r d h.of_vis.small h.of_rev.small h.of_def.small)
  by_kind counts.Tristate on k l a r d e h = tristate_truth v (modules_formula s.shape.modules) on k l a r d e h ∙ same_bool_is _ _ (by_table (tristate_left (v (SymY k)) (v (SymM k))) (tristate_table (v (SymY k)) (v (SymM k))) on a r d h.of_vis.small h.of_rev.small h.of_def.small)
  by_kind counts.Neither on k l a r d e h = refl

  pub symbol_law : (k : ℕ) → all_true (truths v (non_member_holds s k)) ≡ (has_one_value s.shape v k && is_right s.shape c k)
  symbol_law k = by_kind (counts_as s.shape k) (has_modules s.shape c) k (properties_of s k) _ _ _ (modules_truth s v) (record {
    of_own = own_stands s v k;
    of_vis = visibility_stands s v k;
    of_rev = reverse_stands s v k;
    of_def = default_stands s v k;
  })

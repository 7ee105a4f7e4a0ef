-- Where each value is n, m or y, so is the value of each expression, and what calculation gives.
use Rattle.std.proofs.Common.{◌≡◌, ℕ, ◌-◌, ◌≤◌, ◌==◌, Bool, true, false, cond, List, [], ◌∷◌, map, refl, subst, min, max, arith, Option, None, Some}
use Rattle.ut_logic.specs.declared.trit.Trit.{Trit}
use Rattle.ut_logic.specs.declared.trit.Trit.TheVariants.{N, M, Y}
use Rattle.ut_logic.specs.Trit.{rank}
use Rattle.kconf_entries.specs.declared.expr.Side.{Side}
use Rattle.kconf_entries.specs.declared.expr.Side.TheVariants as side
use Rattle.kconf_entries.specs.declared.expr.Sign.{Sign}
use Rattle.kconf_entries.specs.declared.expr.Sign.TheVariants as sign
use Rattle.kconf_entries.specs.declared.expr.Expr.{Expr}
use Rattle.kconf_entries.specs.declared.expr.Expr.TheOpen.{Expr-F}
use Rattle.kconf_entries.specs.declared.expr.Expr.TheViews.{roll-Expr}
use Rattle.kconf_entries.specs.declared.expr.Expr.TheFolds.{fold-roll-Expr, map-Expr, ind-Expr}
use Rattle.kconf_entries.specs.declared.entries.DefaultOf.{DefaultOf}
use Rattle.kconf_tree.specs.declared.shape.Counts.{Counts}
use Rattle.kconf_tree.specs.declared.shape.Counts.TheVariants as counts
use Rattle.kconf_tree.specs.Shape.{Shape, Selecting, symbol_at, counts_as, number_of, outer_at, selectors_of, impliers_of}
use Rattle.kconf_tree.specs.Value.{Configuration, Place, Condition, Value, HasValues, value_in, value_of, value_step, named, side_value, const_value, compared, Comparison, OfTrits, OfText, comparison_of, comparison_value, outer_value, least, greatest, has_modules, stands_for, own_value}
use Rattle.kconf_tree.specs.Properties.{selected_by, reverse_of, implied_of, direct_of, first_default, default_of}
use Rattle.kconf_tree.specs.Valid.{promoted, calculated_of}

either : (b : Bool) (x y : ℕ) → x ≤ 2 → y ≤ 2 → cond b x y ≤ 2
either true x y h g = h
either false x y h g = g

rank_small : (x : Trit) → rank x ≤ 2
rank_small N = omega arith
rank_small M = omega arith
rank_small Y = omega arith

stands_small : (kind : Counts) (x : ℕ) → x ≤ 2 → stands_for kind x ≤ 2
stands_small counts.Bool x h = h
stands_small counts.Tristate x h = h
stands_small counts.Neither x h = omega arith

compared_small : (s : Sign) (a b : ℕ) → compared s a b ≤ 2
compared_small sign.Same a b = either (a == b) 2 0 (omega arith) (omega arith)
compared_small sign.Differ a b = either (a == b) 0 2 (omega arith) (omega arith)
compared_small sign.Less a b = either (a == b) 0 2 (omega arith) (omega arith)
compared_small sign.More a b = either (a == b) 0 2 (omega arith) (omega arith)
compared_small sign.LessSame a b = either (a == b) 0 2 (omega arith) (omega arith)
compared_small sign.MoreSame a b = either (a == b) 0 2 (omega arith) (omega arith)

pub promoted_small : (kind : Counts) (on : Bool) (x : ℕ) → x ≤ 2 → promoted kind on x ≤ 2
promoted_small counts.Bool on x h = either (x == 0) 0 2 (omega arith) (omega arith)
promoted_small counts.Tristate on x h = either on x (cond (x == 0) 0 2) h (either (x == 0) 0 2 (omega arith) (omega arith))
promoted_small counts.Neither on x h = omega arith

module _ (t : Shape) (c : Configuration) (small : HasValues c) where
  named_small : (name : List ℕ) (o : Option ℕ) → named t c name o ≤ 2
  named_small name None = either (c.undeclared name) 2 0 (omega arith) (omega arith)
  named_small name (Some k) = stands_small (counts_as t k) (c.value k) (small k)

  side_small : (s : Side) → side_value t c s ≤ 2
  side_small (side.Const x) = rank_small x
  side_small (side.Name name) = named_small name (number_of t name)
  side_small (side.Literal text) = omega arith
  side_small (side.Quoted text) = omega arith

  outer_small : (text : List ℕ) → outer_value t c text ≤ 2
  outer_small text = by (outer_at t text) refl
    where
      by : (o : Option ℕ) → outer_at t text ≡ o → outer_value t c text ≤ 2
      by None e = rw e (omega arith)
      by (Some k) e = rw e (either (c.outer k) 2 0 (omega arith) (omega arith))

  const_small : (p : Place) (x : Trit) → const_value t c p x ≤ 2
  const_small Condition N = omega arith
  const_small Value N = omega arith
  const_small Condition M = either (has_modules t c) 1 0 (omega arith) (omega arith)
  const_small Value M = omega arith
  const_small Condition Y = omega arith
  const_small Value Y = omega arith

  comparison_small : (l r : Side) (s : Sign) (o : Comparison) → comparison_value t c l s r o ≤ 2
  comparison_small l r s OfTrits = compared_small s (side_value t c l) (side_value t c r)
  comparison_small l r s (OfText text) = outer_small text

  module _ (p : Place) where
    abbrev Each : Type 0
    Each = (e : Expr) × (value_in t c p e ≤ 2)

    least_small : (es : List Each) → least (map (value_in t c p) (map (λ e. e.0) es)) ≤ 2
    least_small [] = omega arith
    least_small (e ∷ es) = omega (arith, e.1, least_small es)

    greatest_small : (es : List Each) → greatest (map (value_in t c p) (map (λ e. e.0) es)) ≤ 2
    greatest_small [] = omega arith
    greatest_small (e ∷ es) = omega (arith, e.1, greatest_small es)

    abbrev StepSmall : Expr-F Expr → Type 0
    StepSmall z = value_step t c p (map-Expr Expr ℕ (value_in t c p) z) ≤ 2

    step : (y : Expr-F Each) → StepSmall (map-Expr Each Expr (λ e. e.0) y)
    step (Expr-F.Const x) = const_small p x
    step (Expr-F.Name name) = named_small name (number_of t name)
    step (Expr-F.Outer text) = outer_small text
    step (Expr-F.Compare left s right) = comparison_small left right s (comparison_of t left s right)
    step (Expr-F.Neg e) = omega arith
    step (Expr-F.And es) = least_small es
    step (Expr-F.Or es) = greatest_small es

    rolled : (x : Expr-F Expr) → StepSmall x → value_in t c p (roll-Expr x) ≤ 2
    rolled x h = rw (fold-roll-Expr ℕ (value_step t c p) x) h

    pub value_small : (e : Expr) → value_in t c p e ≤ 2
    value_small = ind-Expr (λ e. value_in t c p e ≤ 2) (λ x y is. rolled x (subst StepSmall is (step y)))

  conditions_small : (es : List Expr) → greatest (map (value_of t c) es) ≤ 2
  conditions_small [] = omega arith
  conditions_small (e ∷ es) = omega (arith, value_small Condition e, conditions_small es)

  first_small : (ds : List DefaultOf) → first_default t c ds ≤ 2
  first_small [] = omega arith
  first_small (d ∷ ds) = either (value_of t c d.cond == 0) (first_default t c ds) (min (value_in t c Value d.value) (value_of t c d.cond)) (first_small ds) (omega (arith, value_small Value d.value))

  selected_small : (ss : List Selecting) → greatest (map (selected_by t c) ss) ≤ 2
  selected_small [] = omega arith
  selected_small (s ∷ ss) = omega (arith, value_small Condition s.cond, selected_small ss)

  default_small : (k : ℕ) → default_of t c k ≤ 2
  default_small k = either (implied_of t c k == 0) (first_default t c (symbol_at t k).defaults) (min (direct_of t c k) (max (first_default t c (symbol_at t k).defaults) (implied_of t c k)))
      (first_small (symbol_at t k).defaults) (omega (arith, conditions_small (symbol_at t k).places))

  -- what calculation gives without a user's setting
  pub calculated_small : (k : ℕ) → calculated_of t c None k ≤ 2
  calculated_small k = promoted_small (counts_as t k) (has_modules t c) (max (default_of t c k) (reverse_of t c k)) (omega (arith, default_small k, selected_small (selectors_of t k)))

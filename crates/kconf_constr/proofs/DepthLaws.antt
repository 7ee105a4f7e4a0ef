-- The formulas of an expression are at most five deeper than the expression is nested.
use Rattle.std.proofs.Common.{◌≡◌, ℕ, ◌+◌, ◌≤◌, max, Bool, true, false, not, cond, List, [], ◌∷◌, map, filter, refl, sym, subst, ◌∙◌, Option, None, Some, arith, rules}
use Rattle.std.specs.List.{list_any}
use Rattle.ut_logic.specs.declared.trit.Trit.{Trit}
use Rattle.ut_logic.specs.declared.trit.Trit.TheVariants.{N, M, Y}
use Rattle.ut_logic.specs.declared.item.Item.{Item}
use Rattle.ut_logic.specs.declared.item.Item.TheVariants as item
use Rattle.ut_logic.specs.declared.formula.Formula.{Formula, out-Formula}
use Rattle.ut_logic.specs.declared.formula.Formula.TheOpen.{Formula-F}
use Rattle.ut_logic.specs.declared.formula.Formula.TheFolds.{fold_out-Formula, map-Formula}
use Rattle.ut_logic.specs.declared.formula.Formula.TheVariants.{Yes, No, Is, Neg, AllOf, AnyOf}
use Rattle.ut_logic.specs.declared.formula.Formula.TheViews.{the_lemmas}
use Rattle.ut_logic.specs.Fold.{is_yes, is_no, not_of, not_of_at, all_of, any_of, joined_all, joined_any}
use Rattle.kconf_entries.specs.declared.expr.Side.{Side}
use Rattle.kconf_entries.specs.declared.expr.Side.TheVariants as side
use Rattle.kconf_entries.specs.declared.expr.Sign.{Sign}
use Rattle.kconf_entries.specs.declared.expr.Sign.TheVariants as sign
use Rattle.kconf_entries.specs.declared.expr.Expr.{Expr}
use Rattle.kconf_entries.specs.declared.expr.Expr.TheOpen.{Expr-F}
use Rattle.kconf_entries.specs.declared.expr.Expr.TheViews.{roll-Expr}
use Rattle.kconf_entries.specs.declared.expr.Expr.TheFolds.{fold-roll-Expr, map-Expr, ind-Expr}
use Rattle.kconf_tree.specs.declared.shape.Counts.{Counts}
use Rattle.kconf_tree.specs.declared.shape.Counts.TheVariants as counts
use Rattle.kconf_tree.specs.declared.place.Place.{Place}
use Rattle.kconf_tree.specs.declared.place.Place.TheVariants.{Condition, Value}
use Rattle.kconf_tree.specs.Shape.{number_of, outer_at, counts_as}
use Rattle.kconf_tree.specs.Value.{Comparison, OfTrits, OfText, comparison_of, greatest}
use Rattle.kconf_constr.specs.declared.level.Level.{Level}
use Rattle.kconf_constr.specs.declared.level.Level.TheVariants.{NotN, IsY}
use Rattle.kconf_constr.specs.Scope.{Scope, number_among}
use Rattle.kconf_constr.specs.Levels.{Levels, both, levels, levels_step, at_level, value_levels, const_levels, own_levels_as, named_levels, undeclared_formula, outer_formula, modules_formula, side_levels, same, both_y, both_n, both_m, compared, comparison_formula}
use Rattle.kconf_constr.specs.Depth.{depth, depth_step, nesting, nesting_step, IsShallow}

-- ---- the depth of one layer

abbrev depth_at : Formula-F Formula → ℕ
depth_at Formula-F.Yes = 0
depth_at Formula-F.No = 0
depth_at (Formula-F.Is item) = 0
depth_at (Formula-F.Neg f) = 1 + depth f
depth_at (Formula-F.AllOf fs) = 1 + greatest (map depth fs)
depth_at (Formula-F.AnyOf fs) = 1 + greatest (map depth fs)

mapped : (x : Formula-F Formula) → depth_step (map-Formula Formula ℕ depth x) ≡ depth_at x
mapped Formula-F.Yes = refl
mapped Formula-F.No = refl
mapped (Formula-F.Is item) = refl
mapped (Formula-F.Neg f) = refl
mapped (Formula-F.AllOf fs) = refl
mapped (Formula-F.AnyOf fs) = refl

depth_out : (f : Formula) → depth f ≡ depth_at (out-Formula f)
depth_out f = fold_out-Formula ℕ depth_step f ∙ mapped (out-Formula f)

depth-Yes : depth Yes ≡ 0
depth-Yes = depth_out Yes ∙ search (rules, the_lemmas)

depth-No : depth No ≡ 0
depth-No = depth_out No ∙ search (rules, the_lemmas)

pub depth-Is : (i : Item) → depth (Is i) ≡ 0
depth-Is i = depth_out (Is i) ∙ search (rules, the_lemmas)

depth-Neg : (f : Formula) → depth (Neg f) ≡ 1 + depth f
depth-Neg f = depth_out (Neg f) ∙ search (rules, the_lemmas)

depth-AllOf : (fs : List Formula) → depth (AllOf fs) ≡ 1 + greatest (map depth fs)
depth-AllOf fs = depth_out (AllOf fs) ∙ search (rules, the_lemmas)

depth-AnyOf : (fs : List Formula) → depth (AnyOf fs) ≡ 1 + greatest (map depth fs)
depth-AnyOf fs = depth_out (AnyOf fs) ∙ search (rules, the_lemmas)

-- ---- folding

filtered : (p : Formula → Bool) (fs : List Formula) → greatest (map depth (filter p fs)) ≤ greatest (map depth fs)
filtered p [] = omega arith
filtered p (f ∷ fs) = by (p f) (filtered p fs)
  where
    by : (b : Bool) → greatest (map depth (filter p fs)) ≤ greatest (map depth fs) → greatest (map depth (cond b (f ∷ filter p fs) (filter p fs))) ≤ max (depth f) (greatest (map depth fs))
    by true more = omega (arith, more)
    by false more = omega (arith, more)

joined_all_deep : (fs : List Formula) → depth (joined_all fs) ≤ greatest (map depth fs) + 1
joined_all_deep [] = omega (arith, depth-Yes)
joined_all_deep (f ∷ []) = omega arith
joined_all_deep (f ∷ g ∷ fs) = omega (arith, depth-AllOf (f ∷ g ∷ fs))

joined_any_deep : (fs : List Formula) → depth (joined_any fs) ≤ greatest (map depth fs) + 1
joined_any_deep [] = omega (arith, depth-No)
joined_any_deep (f ∷ []) = omega arith
joined_any_deep (f ∷ g ∷ fs) = omega (arith, depth-AnyOf (f ∷ g ∷ fs))

pub all_deep : (fs : List Formula) → depth (all_of fs) ≤ greatest (map depth fs) + 1
all_deep fs = by (list_any is_no fs)
  where
    by : (b : Bool) → depth (cond b No (joined_all (filter (λ f. not (is_yes f)) fs))) ≤ greatest (map depth fs) + 1
    by true = omega (arith, depth-No)
    by false = omega (arith, joined_all_deep (filter (λ f. not (is_yes f)) fs), filtered (λ f. not (is_yes f)) fs)

pub any_deep : (fs : List Formula) → depth (any_of fs) ≤ greatest (map depth fs) + 1
any_deep fs = by (list_any is_yes fs)
  where
    by : (b : Bool) → depth (cond b Yes (joined_any (filter (λ f. not (is_no f)) fs))) ≤ greatest (map depth fs) + 1
    by true = omega (arith, depth-Yes)
    by false = omega (arith, joined_any_deep (filter (λ f. not (is_no f)) fs), filtered (λ f. not (is_no f)) fs)

pub not_deep : (f : Formula) → depth (not_of f) ≤ depth f + 1
not_deep f = by (out-Formula f) (depth_out f)
  where
    by : (x : Formula-F Formula) → depth f ≡ depth_at x → depth (not_of_at f x) ≤ depth f + 1
    by Formula-F.Yes h = omega (arith, depth-No)
    by Formula-F.No h = omega (arith, depth-Yes)
    by (Formula-F.Is i) h = omega (arith, depth-Neg f)
    by (Formula-F.Neg g) h = omega (arith, h)
    by (Formula-F.AllOf fs) h = omega (arith, depth-Neg f)
    by (Formula-F.AnyOf fs) h = omega (arith, depth-Neg f)

-- ---- names and constants

-- both formulas are at most so deep
pub record AreDeep (n : ℕ) (h : Levels) : Type 0 where
  pub not_n : depth h.not_n ≤ n
  pub is_y : depth h.is_y ≤ n

pub deep_at : (n : ℕ) (h : Level) (a : Levels) → AreDeep n a → depth (at_level h a) ≤ n
deep_at n NotN a b = b.not_n
deep_at n IsY a b = b.is_y

no_deep : AreDeep 1 (both No)
no_deep = record { not_n = omega (arith, depth-No); is_y = omega (arith, depth-No) }

yes_deep : AreDeep 1 (both Yes)
yes_deep = record { not_n = omega (arith, depth-Yes); is_y = omega (arith, depth-Yes) }

pub own_deep : (kind : Counts) (k : ℕ) → AreDeep 1 (own_levels_as kind k)
own_deep counts.Bool k = record { not_n = omega (arith, depth-Is (item.SymY k)); is_y = omega (arith, depth-Is (item.SymY k)) }
own_deep counts.Tristate k = record {
  not_n = omega (arith, any_deep (Is (item.SymY k) ∷ Is (item.SymM k) ∷ []), depth-Is (item.SymY k), depth-Is (item.SymM k));
  is_y = omega (arith, depth-Is (item.SymY k));
}
own_deep counts.Neither k = no_deep

undeclared_deep : (o : Option ℕ) → AreDeep 1 (both (undeclared_formula o))
undeclared_deep None = no_deep
undeclared_deep (Some k) = record { not_n = omega (arith, depth-Is (item.Undeclared k)); is_y = omega (arith, depth-Is (item.Undeclared k)) }

outer_deep : (o : Option ℕ) → depth (outer_formula o) ≤ 1
outer_deep None = omega (arith, depth-No)
outer_deep (Some k) = omega (arith, depth-Is (item.Outer k))

pub modules_deep : (o : Option ℕ) → depth (modules_formula o) ≤ 1
modules_deep None = omega (arith, depth-No)
modules_deep (Some k) = omega (arith, depth-Is (item.SymY k))

value_deep : (x : Trit) → AreDeep 1 (value_levels x)
value_deep N = no_deep
value_deep M = record { not_n = yes_deep.not_n; is_y = no_deep.is_y }
value_deep Y = yes_deep

module _ (s : Scope) where
  name_deep : (name : List ℕ) (o : Option ℕ) → AreDeep 1 (named_levels s name o)
  name_deep name None = undeclared_deep (number_among s.undeclared name)
  name_deep name (Some k) = own_deep (counts_as s.shape k) k

  const_deep : (p : Place) (x : Trit) → AreDeep 1 (const_levels s p x)
  const_deep Value x = value_deep x
  const_deep Condition N = no_deep
  const_deep Condition M = record { not_n = modules_deep s.shape.modules; is_y = no_deep.is_y }
  const_deep Condition Y = yes_deep

  side_deep : (d : Side) → AreDeep 1 (side_levels s d)
  side_deep (side.Const x) = value_deep x
  side_deep (side.Name name) = name_deep name (number_of s.shape name)
  side_deep (side.Literal text) = no_deep
  side_deep (side.Quoted text) = no_deep

  -- ---- comparisons

  same_deep : (a b : Levels) → AreDeep 1 a → AreDeep 1 b → depth (same a b) ≤ 4
  same_deep a b p q = omega (arith, any_deep (both_y a b ∷ both_n a b ∷ both_m a b ∷ []), of_y, of_n, of_m)
    where
      of_y : depth (both_y a b) ≤ 3
      of_y = omega (arith, all_deep (a.is_y ∷ b.is_y ∷ []), p.is_y, q.is_y)

      of_n : depth (both_n a b) ≤ 3
      of_n = omega (arith, all_deep (not_of a.not_n ∷ not_of b.not_n ∷ []), not_deep a.not_n, not_deep b.not_n, p.not_n, q.not_n)

      of_m : depth (both_m a b) ≤ 3
      of_m = omega (arith, all_deep (a.not_n ∷ not_of a.is_y ∷ b.not_n ∷ not_of b.is_y ∷ []), not_deep a.is_y, not_deep b.is_y, p.not_n, q.not_n, p.is_y, q.is_y)

  compared_deep : (g : Sign) (f : Formula) → depth f ≤ 4 → depth (compared g f) ≤ 5
  compared_deep sign.Same f d = omega (arith, d)
  compared_deep sign.Differ f d = omega (arith, d, not_deep f)
  compared_deep sign.Less f d = omega (arith, d, not_deep f)
  compared_deep sign.More f d = omega (arith, d, not_deep f)
  compared_deep sign.LessSame f d = omega (arith, d, not_deep f)
  compared_deep sign.MoreSame f d = omega (arith, d, not_deep f)

  compare_deep : (l r : Side) (g : Sign) (o : Comparison) → depth (comparison_formula s l g r o) ≤ 5
  compare_deep l r g OfTrits = compared_deep g (same (side_levels s l) (side_levels s r)) (same_deep (side_levels s l) (side_levels s r) (side_deep l) (side_deep r))
  compare_deep l r g (OfText text) = omega (arith, outer_deep (outer_at s.shape text))

  -- ---- expressions

  abbrev pub IsDeep : Place → Expr → Type 0
  IsDeep p e = AreDeep (nesting e + 5) (levels s p e)

  five : (h : Levels) → AreDeep 1 h → AreDeep (0 + 5) h
  five h d = record { not_n = omega (arith, d.not_n); is_y = omega (arith, d.is_y) }

  module _ (p : Place) where
    abbrev Each : Type 0
    Each = (e : Expr) × IsDeep p e

    each_deep : (h : Level) (es : List Each) → greatest (map depth (map (at_level h) (map (levels s p) (map (λ e. e.0) es)))) ≤ greatest (map nesting (map (λ e. e.0) es)) + 5
    each_deep h [] = omega arith
    each_deep h (e ∷ es) = omega (arith, deep_at (nesting e.0 + 5) h (levels s p e.0) e.1, each_deep h es)

    abbrev StepDeep : Expr-F Expr → Type 0
    StepDeep z = AreDeep (nesting_step (map-Expr Expr ℕ nesting z) + 5) (levels_step s p (map-Expr Expr Levels (levels s p) z))

    step : (y : Expr-F Each) → StepDeep (map-Expr Each Expr (λ e. e.0) y)
    step (Expr-F.Const x) = five (const_levels s p x) (const_deep p x)
    step (Expr-F.Name name) = five (named_levels s name (number_of s.shape name)) (name_deep name (number_of s.shape name))
    step (Expr-F.Outer text) = record { not_n = omega (arith, outer_deep (outer_at s.shape text)); is_y = omega (arith, outer_deep (outer_at s.shape text)) }
    step (Expr-F.Compare left g right) = let d = compare_deep left right g (comparison_of s.shape left g right) in record { not_n = omega (arith, d); is_y = omega (arith, d) }
    step (Expr-F.Neg e) = record { not_n = omega (arith, not_deep (levels s p e.0).is_y, e.1.is_y); is_y = omega (arith, not_deep (levels s p e.0).not_n, e.1.not_n) }
    step (Expr-F.And es) = record {
      not_n = omega (arith, all_deep (map (at_level NotN) (map (levels s p) (map (λ e. e.0) es))), each_deep NotN es);
      is_y = omega (arith, all_deep (map (at_level IsY) (map (levels s p) (map (λ e. e.0) es))), each_deep IsY es);
    }
    step (Expr-F.Or es) = record {
      not_n = omega (arith, any_deep (map (at_level NotN) (map (levels s p) (map (λ e. e.0) es))), each_deep NotN es);
      is_y = omega (arith, any_deep (map (at_level IsY) (map (levels s p) (map (λ e. e.0) es))), each_deep IsY es);
    }

    rolled : (x : Expr-F Expr) → StepDeep x → IsDeep p (roll-Expr x)
    rolled x h = rw (fold-roll-Expr Levels (levels_step s p) x, fold-roll-Expr ℕ nesting_step x) h

    pub expr_deep : (e : Expr) → IsDeep p e
    expr_deep = ind-Expr (IsDeep p) (λ x y is. rolled x (subst StepDeep is (step y)))

-- ---- formulas that are that of an expression

pub shallow_of : (s : Scope) (p : Place) (h : Level) (e : Expr) (f : Formula) → f ≡ at_level h (levels s p e) → IsShallow e f
shallow_of s p h e f is = subst (IsShallow e) (sym is) (deep_at (nesting e + 5) h (levels s p e) (expr_deep s p e))

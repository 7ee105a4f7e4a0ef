-- The two formulas say of each configuration what the value says.
use Rattle.std.proofs.Common.{◌≡◌, ℕ, ◌-◌, ◌≤◌, ◌==◌, Bool, true, false, not, ◌&&◌, ◌||◌, cond, List, [], ◌∷◌, map, refl, ap, sym, subst, ◌∙◌, min, max, arith, Option, None, Some}
use Rattle.std.proofs.lemmas.Bool.Decides.{nat_tests}
use Rattle.ut_logic.specs.declared.item.Item.{Item}
use Rattle.ut_logic.specs.declared.item.Item.TheVariants.{SymY, SymM, Undeclared, Outer}
use Rattle.ut_logic.specs.declared.trit.Trit.{Trit}
use Rattle.ut_logic.specs.declared.trit.Trit.TheVariants.{N, M, Y}
use Rattle.ut_logic.specs.Trit.{rank}
use Rattle.ut_logic.specs.declared.formula.Formula.{Formula}
use Rattle.ut_logic.specs.declared.formula.Formula.TheVariants.{Yes, No, Is}
use Rattle.ut_logic.specs.Fold.{all_of, not_of}
use Rattle.ut_logic.specs.Truth.{truth, truths, all_true, any_true}
use Rattle.ut_logic.proofs.FoldLaws.{truth-Yes, truth-No, truth-Is, truth-all_of, truth-any_of, truth-not_of}
use Rattle.kconf_entries.specs.declared.expr.Side.{Side}
use Rattle.kconf_entries.specs.declared.expr.Side.TheVariants as side
use Rattle.kconf_entries.specs.declared.expr.Sign.{Sign}
use Rattle.kconf_entries.specs.declared.expr.Sign.TheVariants as sign
use Rattle.kconf_entries.specs.declared.expr.Expr.{Expr}
use Rattle.kconf_entries.specs.declared.expr.Expr.TheOpen.{Expr-F}
use Rattle.kconf_entries.specs.declared.expr.Expr.TheViews.{roll-Expr}
use Rattle.kconf_entries.specs.declared.expr.Expr.TheFolds.{fold-roll-Expr, map-Expr, ind-Expr}
use Rattle.kconf_tree.specs.declared.shape.Counts.{Counts}
use Rattle.kconf_tree.specs.declared.shape.Counts.TheVariants as counts
use Rattle.kconf_tree.specs.Shape.{Shape, number_of, outer_at, counts_as}
use Rattle.kconf_tree.specs.declared.place.Place.{Place}
use Rattle.kconf_tree.specs.declared.place.Place.TheVariants.{Condition, Value}
use Rattle.kconf_tree.specs.Value.{Configuration, value_in, value_step, named, side_value, const_value, outer_value, Comparison, OfTrits, OfText, comparison_of, comparison_value, least, greatest, has_modules, stands_for}
use Rattle.kconf_tree.specs.Value as tree
use Rattle.kconf_constr.specs.declared.level.Level.TheVariants.{NotN, IsY}
use Rattle.kconf_constr.specs.Scope.{Scope, number_among}
use Rattle.kconf_constr.specs.Levels.{Levels, both, levels, levels_step, at_level, value_levels, const_levels, own_levels_as, named_levels, undeclared_formula, outer_formula, modules_formula, side_levels, same, compared, comparison_formula, each, some}
use Rattle.kconf_constr.specs.Stands.{value_as, undeclared_truth, read_off}

-- the formulas h stand for the value n
pub record Stands (v : Item → Bool) (h : Levels) (n : ℕ) : Type 0 where
  pub not_n : truth v h.not_n ≡ not (n == 0)
  pub is_y : truth v h.is_y ≡ (n == 2)
  pub small : n ≤ 2

-- a formula that is y or n
pub two_valued : (v : Item → Bool) (f : Formula) (b : Bool) → truth v f ≡ b → Stands v (both f) (cond b 2 0)
two_valued v f true h = record { not_n = h; is_y = h; small = omega arith }
two_valued v f false h = record { not_n = h; is_y = h; small = omega arith }

stands_n : (v : Item → Bool) → Stands v (both No) 0
stands_n v = two_valued v No false (truth-No v)

stands_y : (v : Item → Bool) → Stands v (both Yes) 2
stands_y v = two_valued v Yes true (truth-Yes v)

stands_value : (v : Item → Bool) (t : Trit) → Stands v (value_levels t) (rank t)
stands_value v N = stands_n v
stands_value v M = record { not_n = truth-Yes v; is_y = truth-No v; small = omega arith }
stands_value v Y = stands_y v

pub stands_own : (v : Item → Bool) (kind : Counts) (k : ℕ) → Stands v (own_levels_as kind k) (stands_for kind (value_as kind v k))
stands_own v counts.Bool k = two_valued v (Is (SymY k)) (v (SymY k)) (truth-Is v (SymY k))
stands_own v counts.Tristate k = by (v (SymY k)) (v (SymM k)) (truth-any_of v (Is (SymY k) ∷ Is (SymM k) ∷ []) ∙ ap any_true (truth_pair (SymY k) (SymM k))) (truth-Is v (SymY k))
  where
    truth_pair : (i j : Item) → truths v (Is i ∷ Is j ∷ []) ≡ v i ∷ v j ∷ []
    truth_pair i j = rw (truth-Is v i, truth-Is v j) refl

    by : (a b : Bool) → truth v (own_levels_as counts.Tristate k).not_n ≡ any_true (a ∷ b ∷ []) → truth v (Is (SymY k)) ≡ a → Stands v (own_levels_as counts.Tristate k) (cond a 2 (cond b 1 0))
    by true b h g = record { not_n = h; is_y = g; small = omega arith }
    by false true h g = record { not_n = h; is_y = g; small = omega arith }
    by false false h g = record { not_n = h; is_y = g; small = omega arith }
stands_own v counts.Neither k = stands_n v

stands_undeclared : (v : Item → Bool) (o : Option ℕ) → Stands v (both (undeclared_formula o)) (cond (undeclared_truth v o) 2 0)
stands_undeclared v None = stands_n v
stands_undeclared v (Some k) = two_valued v (Is (Undeclared k)) (v (Undeclared k)) (truth-Is v (Undeclared k))

neg_not_n : (n : ℕ) → n ≤ 2 → not (n == 2) ≡ not (2 - n == 0)
neg_not_n n h = grind (arith, nat_tests)

neg_is_y : (n : ℕ) → n ≤ 2 → not (not (n == 0)) ≡ (2 - n == 2)
neg_is_y n h = grind (arith, nat_tests)

min_not_n : (m n : ℕ) → (not (m == 0) && not (n == 0)) ≡ not (min m n == 0)
min_not_n m n = grind (arith, nat_tests)

min_is_y : (m n : ℕ) → m ≤ 2 → n ≤ 2 → ((m == 2) && (n == 2)) ≡ (min m n == 2)
min_is_y m n h g = grind (arith, nat_tests)

max_not_n : (m n : ℕ) → (not (m == 0) || not (n == 0)) ≡ not (max m n == 0)
max_not_n m n = grind (arith, nat_tests)

max_is_y : (m n : ℕ) → m ≤ 2 → n ≤ 2 → ((m == 2) || (n == 2)) ≡ (max m n == 2)
max_is_y m n h g = grind (arith, nat_tests)

stands_neg : (v : Item → Bool) (h : Levels) (n : ℕ) → Stands v h n → Stands v (record { not_n = not_of h.is_y; is_y = not_of h.not_n }) (2 - n)
stands_neg v h n s = record {
  not_n = truth-not_of v h.is_y ∙ (ap not s.is_y ∙ neg_not_n n s.small);
  is_y = truth-not_of v h.not_n ∙ (ap not s.not_n ∙ neg_is_y n s.small);
  small = omega arith;
}

-- ---- lists

module _ (v : Item → Bool) {E : Type 0} (h : E → Levels) (n : E → ℕ) where
  abbrev Each : Type 0
  Each = (e : E) × Stands v (h e) (n e)

  abbrev of : List Each → List E
  of es = map (λ p. p.0) es

  least_small : (es : List Each) → least (map n (of es)) ≤ 2
  least_small [] = omega arith
  least_small (e ∷ es) = omega (arith, e.1.small, least_small es)

  greatest_small : (es : List Each) → greatest (map n (of es)) ≤ 2
  greatest_small [] = omega arith
  greatest_small (e ∷ es) = omega (arith, e.1.small, greatest_small es)

  all_not_n : (es : List Each) → all_true (truths v (map (at_level NotN) (map h (of es)))) ≡ not (least (map n (of es)) == 0)
  all_not_n [] = refl
  all_not_n (e ∷ es) = rw (e.1.not_n, all_not_n es) (min_not_n (n e.0) (least (map n (of es))))

  all_is_y : (es : List Each) → all_true (truths v (map (at_level IsY) (map h (of es)))) ≡ (least (map n (of es)) == 2)
  all_is_y [] = refl
  all_is_y (e ∷ es) = rw (e.1.is_y, all_is_y es) (min_is_y (n e.0) (least (map n (of es))) e.1.small (least_small es))

  any_not_n : (es : List Each) → any_true (truths v (map (at_level NotN) (map h (of es)))) ≡ not (greatest (map n (of es)) == 0)
  any_not_n [] = refl
  any_not_n (e ∷ es) = rw (e.1.not_n, any_not_n es) (max_not_n (n e.0) (greatest (map n (of es))))

  any_is_y : (es : List Each) → any_true (truths v (map (at_level IsY) (map h (of es)))) ≡ (greatest (map n (of es)) == 2)
  any_is_y [] = refl
  any_is_y (e ∷ es) = rw (e.1.is_y, any_is_y es) (max_is_y (n e.0) (greatest (map n (of es))) e.1.small (greatest_small es))

  pub stands_all : (es : List Each) → Stands v (each (map h (of es))) (least (map n (of es)))
  stands_all es = record {
    not_n = truth-all_of v _ ∙ all_not_n es;
    is_y = truth-all_of v _ ∙ all_is_y es;
    small = least_small es;
  }

  pub stands_any : (es : List Each) → Stands v (some (map h (of es))) (greatest (map n (of es)))
  stands_any es = record {
    not_n = truth-any_of v _ ∙ any_not_n es;
    is_y = truth-any_of v _ ∙ any_is_y es;
    small = greatest_small es;
  }

-- ---- comparisons

same_bits : (m n : ℕ) → m ≤ 2 → n ≤ 2 → any_true (all_true ((m == 2) ∷ (n == 2) ∷ []) ∷ all_true (not (not (m == 0)) ∷ not (not (n == 0)) ∷ []) ∷ all_true (not (m == 0) ∷ not (m == 2) ∷ not (n == 0) ∷ not (n == 2) ∷ []) ∷ []) ≡ (m == n)
same_bits m n h g = grind (arith, nat_tests)

same_truth : (v : Item → Bool) (a b : Levels) (m n : ℕ) → Stands v a m → Stands v b n → truth v (same a b) ≡ (m == n)
same_truth v a b m n s t = truth-any_of v (all_of (a.is_y ∷ b.is_y ∷ []) ∷ all_of (not_of a.not_n ∷ not_of b.not_n ∷ []) ∷ all_of (a.not_n ∷ not_of a.is_y ∷ b.not_n ∷ not_of b.is_y ∷ []) ∷ []) ∙ (rw (
  truth-all_of v (a.is_y ∷ b.is_y ∷ []),
  truth-all_of v (not_of a.not_n ∷ not_of b.not_n ∷ []),
  truth-all_of v (a.not_n ∷ not_of a.is_y ∷ b.not_n ∷ not_of b.is_y ∷ []),
  truth-not_of v a.not_n,
  truth-not_of v b.not_n,
  truth-not_of v a.is_y,
  truth-not_of v b.is_y,
  s.not_n,
  s.is_y,
  t.not_n,
  t.is_y,
) (same_bits m n s.small t.small))

differs : (v : Item → Bool) (a b : Levels) (m n : ℕ) → Stands v a m → Stands v b n → Stands v (both (not_of (same a b))) (cond (m == n) 0 2)
differs v a b m n s t = by (m == n) (same_truth v a b m n s t)
  where
    by : (q : Bool) → truth v (same a b) ≡ q → Stands v (both (not_of (same a b))) (cond q 0 2)
    by true h = two_valued v (not_of (same a b)) false (truth-not_of v (same a b) ∙ ap not h)
    by false h = two_valued v (not_of (same a b)) true (truth-not_of v (same a b) ∙ ap not h)

stands_compared : (v : Item → Bool) (g : Sign) (a b : Levels) (m n : ℕ) → Stands v a m → Stands v b n → Stands v (both (compared g (same a b))) (tree.compared g m n)
stands_compared v sign.Same a b m n s t = two_valued v (same a b) (m == n) (same_truth v a b m n s t)
stands_compared v sign.Differ a b m n s t = differs v a b m n s t
stands_compared v sign.Less a b m n s t = differs v a b m n s t
stands_compared v sign.More a b m n s t = differs v a b m n s t
stands_compared v sign.LessSame a b m n s t = differs v a b m n s t
stands_compared v sign.MoreSame a b m n s t = differs v a b m n s t

-- ---- every expression

-- the modules symbol counts as bool
pub counts_modules : (t : Shape) (k : ℕ) → t.modules ≡ Some k → counts_as t k ≡ counts.Bool
counts_modules t k e = rw (e, same_number k) refl
  where
    same_number : (k : ℕ) → (k == k) ≡ true
    same_number k = grind (arith, nat_tests)

-- the same as has_modules, of the number alone
abbrev has_modules_as : Configuration → Option ℕ → Bool
has_modules_as c None = false
has_modules_as c (Some k) = not (c.value k == 0)

module _ (s : Scope) (v : Item → Bool) where
  abbrev c : Configuration
  c = read_off s v

  outer_case : (text : List ℕ) → Stands v (both (outer_formula (outer_at s.shape text))) (outer_value s.shape c text)
  outer_case text = by (outer_at s.shape text) refl
    where
      by : (o : Option ℕ) → outer_at s.shape text ≡ o → Stands v (both (outer_formula (outer_at s.shape text))) (outer_value s.shape c text)
      by None e = rw e (stands_n v)
      by (Some k) e = rw e (two_valued v (Is (Outer k)) (v (Outer k)) (truth-Is v (Outer k)))

  name_case : (name : List ℕ) (o : Option ℕ) → Stands v (named_levels s name o) (named s.shape c name o)
  name_case name None = stands_undeclared v (number_among s.undeclared name)
  name_case name (Some k) = stands_own v (counts_as s.shape k) k

  bit_of_modules : (k : ℕ) → s.shape.modules ≡ Some k → not (c.value k == 0) ≡ v (SymY k)
  bit_of_modules k e = ap (λ kind. not (value_as kind v k == 0)) (counts_modules s.shape k e) ∙ by (v (SymY k))
    where
      by : (b : Bool) → not (cond b 2 0 == 0) ≡ b
      by true = refl
      by false = refl

  has_none : s.shape.modules ≡ None → has_modules s.shape c ≡ false
  has_none e = ap (has_modules_as c) e

  has_some : (k : ℕ) → s.shape.modules ≡ Some k → has_modules s.shape c ≡ not (c.value k == 0)
  has_some k e = ap (has_modules_as c) e

  pub modules_truth : truth v (modules_formula s.shape.modules) ≡ has_modules s.shape c
  modules_truth = by s.shape.modules refl
    where
      by : (o : Option ℕ) → s.shape.modules ≡ o → truth v (modules_formula s.shape.modules) ≡ has_modules s.shape c
      by None e = ap (λ m. truth v (modules_formula m)) e ∙ (truth-No v ∙ sym (has_none e))
      by (Some k) e = ap (λ m. truth v (modules_formula m)) e ∙ (truth-Is v (SymY k) ∙ (sym (bit_of_modules k e) ∙ sym (has_some k e)))

  bare_case : (b : Bool) → truth v (modules_formula s.shape.modules) ≡ b → Stands v (record { not_n = modules_formula s.shape.modules; is_y = No }) (cond b 1 0)
  bare_case true h = record { not_n = h; is_y = truth-No v; small = omega arith }
  bare_case false h = record { not_n = h; is_y = truth-No v; small = omega arith }

  const_case : (p : Place) (x : Trit) → Stands v (const_levels s p x) (const_value s.shape c p x)
  const_case Value N = stands_n v
  const_case Value M = stands_value v M
  const_case Value Y = stands_y v
  const_case Condition N = stands_n v
  const_case Condition M = bare_case (has_modules s.shape c) modules_truth
  const_case Condition Y = stands_y v

  side_case : (d : Side) → Stands v (side_levels s d) (side_value s.shape c d)
  side_case (side.Const x) = stands_value v x
  side_case (side.Name name) = name_case name (number_of s.shape name)
  side_case (side.Literal text) = stands_n v
  side_case (side.Quoted text) = stands_n v

  compare_case : (l r : Side) (g : Sign) (o : Comparison) → Stands v (both (comparison_formula s l g r o)) (comparison_value s.shape c l g r o)
  compare_case l r g OfTrits = stands_compared v g (side_levels s l) (side_levels s r) (side_value s.shape c l) (side_value s.shape c r) (side_case l) (side_case r)
  compare_case l r g (OfText text) = outer_case text

  module _ (p : Place) where
    abbrev Right : Expr → Type 0
    Right e = Stands v (levels s p e) (value_in s.shape c p e)

    abbrev StepRight : Expr-F Expr → Type 0
    StepRight z = Stands v (levels_step s p (map-Expr Expr Levels (levels s p) z)) (value_step s.shape c p (map-Expr Expr ℕ (value_in s.shape c p) z))

    step : (y : Expr-F ((e : Expr) × Right e)) → StepRight (map-Expr ((e : Expr) × Right e) Expr (λ p. p.0) y)
    step (Expr-F.Const x) = const_case p x
    step (Expr-F.Name name) = name_case name (number_of s.shape name)
    step (Expr-F.Outer text) = outer_case text
    step (Expr-F.Compare left g right) = compare_case left right g (comparison_of s.shape left g right)
    step (Expr-F.Neg e) = stands_neg v (levels s p e.0) (value_in s.shape c p e.0) e.1
    step (Expr-F.And es) = stands_all v (levels s p) (value_in s.shape c p) es
    step (Expr-F.Or es) = stands_any v (levels s p) (value_in s.shape c p) es

    rolled : (x : Expr-F Expr) → StepRight x → Right (roll-Expr x)
    rolled x h = rw (fold-roll-Expr Levels (levels_step s p) x, fold-roll-Expr ℕ (value_step s.shape c p) x) h

    pub expr_right : (e : Expr) → Right e
    expr_right = ind-Expr Right (λ x y is. rolled x (subst StepRight is (step y)))

-- ---- of formulas that are those of a condition

pub not_n_of : (s t : Scope) (e : Expr) (f : Formula) → f ≡ (levels s Condition e).not_n → s ≡ t → (v : Item → Bool) → truth v f ≡ not (value_in t.shape (read_off t v) Condition e == 0)
not_n_of s t e f h g v = ap (truth v) (h ∙ ap (λ (r : Scope). (levels r Condition e).not_n) g) ∙ (expr_right t v Condition e).not_n

pub is_y_of : (s t : Scope) (e : Expr) (f : Formula) → f ≡ (levels s Condition e).is_y → s ≡ t → (v : Item → Bool) → truth v f ≡ (value_in t.shape (read_off t v) Condition e == 2)
is_y_of s t e f h g v = ap (truth v) (h ∙ ap (λ (r : Scope). (levels r Condition e).is_y) g) ∙ (expr_right t v Condition e).is_y

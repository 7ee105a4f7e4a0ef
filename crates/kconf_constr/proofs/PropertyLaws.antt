-- A symbol's visibility, reverse dependency and default, which gives way where it is implied, as formulas.
use Rattle.std.proofs.Common.{◌≡◌, ℕ, ◌≤◌, ◌==◌, Bool, true, false, not, ◌&&◌, ◌||◌, cond, List, [], ◌∷◌, ◌++◌, map, refl, ap, subst, ◌∙◌, min, max, arith}
use Rattle.std.proofs.lemmas.Bool.Decides.{nat_tests}
use Rattle.ut_logic.specs.declared.item.Item.{Item}
use Rattle.ut_logic.specs.declared.formula.Formula.{Formula}
use Rattle.ut_logic.specs.Fold.{all_of, any_of, not_of}
use Rattle.ut_logic.specs.Truth.{truth, truths, all_true, any_true}
use Rattle.ut_logic.proofs.FoldLaws.{truth-all_of, truth-any_of, truth-not_of}
use Rattle.kconf_entries.specs.declared.expr.Expr.{Expr}
use Rattle.kconf_entries.specs.declared.entries.DefaultOf.{DefaultOf}
use Rattle.kconf_tree.specs.Shape.{Selecting, symbol_at, counts_as, selectors_of, impliers_of}
use Rattle.kconf_tree.specs.declared.place.Place.TheVariants.{Condition, Value}
use Rattle.kconf_tree.specs.Value.{Configuration, value_in, own_value, greatest}
use Rattle.kconf_tree.specs.Properties.{visibility_of, reverse_of, direct_of, weakened as weakened_to, default_of, first_default, selected_by}
use Rattle.kconf_tree.proofs.Small.{on_three, at_three}
use Rattle.kconf_constr.specs.declared.level.Level.{Level}
use Rattle.kconf_constr.specs.declared.level.Level.TheVariants.{NotN, IsY}
use Rattle.kconf_constr.specs.Scope.{Scope}
use Rattle.kconf_constr.specs.Levels.{Levels, levels, at_level, own_levels, each, some}
use Rattle.kconf_constr.specs.Stands.{read_off}
use Rattle.kconf_constr.specs.PropertyFormulas.{greatest_levels, visibility_levels, reverse_levels, selecting_levels, selected_at, first_levels, weakened, default_by, default_levels, default_parts}
use Rattle.kconf_constr.proofs.Tables.{on_both, at_both, same_bool, same_bool_is}
use Rattle.kconf_constr.proofs.ValueLaws.{Stands, stands_any, stands_own, expr_right}

-- ---- lists where each element stands for a number

module _ (v : Item → Bool) {E : Type 0} (h : E → Levels) (n : E → ℕ) (right : (e : E) → Stands v (h e) (n e)) where
  abbrev paired : List E → List ((e : E) × Stands v (h e) (n e))
  paired [] = []
  paired (e ∷ es) = (e, right e) ∷ paired es

  unpaired : (es : List E) → map (λ p. p.0) (paired es) ≡ es
  unpaired [] = refl
  unpaired (e ∷ es) = ap (λ zs. e ∷ zs) (unpaired es)

  pub stands_some : (es : List E) → Stands v (some (map h es)) (greatest (map n es))
  stands_some es = subst (λ (zs : List E). Stands v (some (map h zs)) (greatest (map n zs))) (unpaired es) (stands_any v h n (paired es))

pair_not_n : (m n : ℕ) → all_true (not (m == 0) ∷ not (n == 0) ∷ []) ≡ not (min m n == 0)
pair_not_n m n = grind (arith, nat_tests)

pair_is_y : (m n : ℕ) → m ≤ 2 → n ≤ 2 → all_true ((m == 2) ∷ (n == 2) ∷ []) ≡ (min m n == 2)
pair_is_y m n h g = grind (arith, nat_tests)

stands_pair : (v : Item → Bool) (a b : Levels) (m n : ℕ) → Stands v a m → Stands v b n → Stands v (each (a ∷ b ∷ [])) (min m n)
stands_pair v a b m n s t = record {
  not_n = truth-all_of v (a.not_n ∷ b.not_n ∷ []) ∙ rw (s.not_n, t.not_n) (pair_not_n m n);
  is_y = truth-all_of v (a.is_y ∷ b.is_y ∷ []) ∙ rw (s.is_y, t.is_y) (pair_is_y m n s.small t.small);
  small = omega (arith, s.small, t.small);
}

-- ---- the first default

pub all_append : (v : Item → Bool) (fs gs : List Formula) → all_true (truths v (fs ++ gs)) ≡ (all_true (truths v fs) && all_true (truths v gs))
all_append v [] gs = refl
all_append v (f ∷ fs) gs = ap (λ b. truth v f && b) (all_append v fs gs) ∙ and_group (truth v f) (all_true (truths v fs)) (all_true (truths v gs))
  where
    and_group : (a b c : Bool) → (a && (b && c)) ≡ ((a && b) && c)
    and_group true b c = refl
    and_group false b c = refl

-- a table with a truth and three values
abbrev pub Table : Type 0
Table = Bool → ℕ → ℕ → ℕ → Bool

abbrev pub fills : Table → Bool
fills p = on_both (λ b. on_three (λ x. on_three (λ y. on_three (λ z. p b x y z))))

pub by_table : (p : Table) → fills p ≡ true → (b : Bool) (x y z : ℕ) → x ≤ 2 → y ≤ 2 → z ≤ 2 → p b x y z ≡ true
by_table p h b x y z i j k = at_three (λ z. p b x y z) (at_three (λ y. on_three (λ z. p b x y z)) (at_three (λ x. on_three (λ y. on_three (λ z. p b x y z))) (at_both (λ b. on_three (λ x. on_three (λ y. on_three (λ z. p b x y z)))) h b) x i) y j) z k

abbrev says : Level → ℕ → Bool
says NotN n = not (n == 0)
says IsY n = n == 2

abbrev step_left : Level → Table
step_left h b x y z = (b && (says h x && (says h y && true))) || ((b && (not (not (x == 0)) && true)) && says h z)

step_table : (h : Level) → fills (λ b x y z. same_bool (step_left h b x y z) (b && says h (cond (x == 0) z (min y x)))) ≡ true
step_table NotN = refl
step_table IsY = refl

default_step : (h : Level) (b : Bool) (x y z : ℕ) → x ≤ 2 → y ≤ 2 → z ≤ 2 → step_left h b x y z ≡ (b && says h (cond (x == 0) z (min y x)))
default_step h b x y z i j k = same_bool_is _ _ (by_table (λ b x y z. same_bool (step_left h b x y z) (b && says h (cond (x == 0) z (min y x)))) (step_table h) b x y z i j k)

-- ---- a default that gives way

abbrev weak_not_n : Table
weak_not_n b x y z = same_bool (any_true (all_true (not (x == 0) ∷ not (y == 0) ∷ []) ∷ all_true (not (not (x == 0)) ∷ not (z == 0) ∷ []) ∷ [])) (not (weakened_to x y z == 0))

abbrev weak_is_y : Table
weak_is_y b x y z = same_bool (any_true (all_true (not (x == 0) ∷ any_true ((z == 2) ∷ (x == 2) ∷ []) ∷ (y == 2) ∷ []) ∷ all_true (not (not (x == 0)) ∷ (z == 2) ∷ []) ∷ [])) (weakened_to x y z == 2)

not_n_fills : fills weak_not_n ≡ true
not_n_fills = refl

is_y_fills : fills weak_is_y ≡ true
is_y_fills = refl

weak_stands : (v : Item → Bool) (a b d : Levels) (x y z : ℕ) → Stands v a x → Stands v b y → Stands v d z → Stands v (weakened a b d) (weakened_to x y z)
weak_stands v a b d x y z i p f = record {
  not_n = truth-any_of v (all_of (a.not_n ∷ b.not_n ∷ []) ∷ all_of (not_of a.not_n ∷ d.not_n ∷ []) ∷ []) ∙ rw (
    truth-all_of v (a.not_n ∷ b.not_n ∷ []),
    truth-all_of v (not_of a.not_n ∷ d.not_n ∷ []),
    truth-not_of v a.not_n,
    i.not_n,
    p.not_n,
    f.not_n,
  ) (same_bool_is _ _ (by_table weak_not_n not_n_fills true x y z i.small p.small f.small));
  is_y = truth-any_of v (all_of (a.not_n ∷ any_of (d.is_y ∷ a.is_y ∷ []) ∷ b.is_y ∷ []) ∷ all_of (not_of a.not_n ∷ d.is_y ∷ []) ∷ []) ∙ rw (
    truth-all_of v (a.not_n ∷ any_of (d.is_y ∷ a.is_y ∷ []) ∷ b.is_y ∷ []),
    truth-any_of v (d.is_y ∷ a.is_y ∷ []),
    truth-all_of v (not_of a.not_n ∷ d.is_y ∷ []),
    truth-not_of v a.not_n,
    i.not_n,
    i.is_y,
    p.is_y,
    f.is_y,
  ) (same_bool_is _ _ (by_table weak_is_y is_y_fills true x y z i.small p.small f.small));
  small = by (x == 0);
}
  where
    by : (q : Bool) → cond q z (min y (max z x)) ≤ 2
    by true = f.small
    by false = omega (arith, p.small)

module _ (s : Scope) (v : Item → Bool) where
  abbrev c : Configuration
  c = read_off s v

  either : (b : Bool) (m n : ℕ) → m ≤ 2 → n ≤ 2 → cond b m n ≤ 2
  either true m n i j = i
  either false m n i j = j

  first_small : (ds : List DefaultOf) → first_default s.shape c ds ≤ 2
  first_small [] = omega arith
  first_small (d ∷ ds) = either (value_in s.shape c Condition d.cond == 0) (first_default s.shape c ds) (min (value_in s.shape c Value d.value) (value_in s.shape c Condition d.cond)) (first_small ds) (omega (arith, (expr_right s v Value d.value).small))

  level_says : (h : Level) (a : Levels) (n : ℕ) → Stands v a n → truth v (at_level h a) ≡ says h n
  level_says NotN a n stands = stands.not_n
  level_says IsY a n stands = stands.is_y

  parts_say : (h : Level) (nots : List Formula) (ds : List DefaultOf) → any_true (truths v (default_parts s h nots ds)) ≡ (all_true (truths v nots) && says h (first_default s.shape c ds))
  parts_say h nots [] = none h (all_true (truths v nots))
    where
      none : (h : Level) (b : Bool) → false ≡ (b && says h 0)
      none NotN true = refl
      none NotN false = refl
      none IsY true = refl
      none IsY false = refl
  parts_say h nots (d ∷ ds) = rw (
    truth-all_of v (nots ++ at_level h (levels s Condition d.cond) ∷ at_level h (levels s Value d.value) ∷ []),
    all_append v nots (at_level h (levels s Condition d.cond) ∷ at_level h (levels s Value d.value) ∷ []),
    parts_say h (nots ++ not_of (at_level NotN (levels s Condition d.cond)) ∷ []) ds,
    all_append v nots (not_of (at_level NotN (levels s Condition d.cond)) ∷ []),
    level_says h (levels s Condition d.cond) (value_in s.shape c Condition d.cond) (expr_right s v Condition d.cond),
    level_says h (levels s Value d.value) (value_in s.shape c Value d.value) (expr_right s v Value d.value),
    truth-not_of v (at_level NotN (levels s Condition d.cond)),
    (expr_right s v Condition d.cond).not_n,
  ) (default_step h (all_true (truths v nots)) (value_in s.shape c Condition d.cond) (value_in s.shape c Value d.value) (first_default s.shape c ds) (expr_right s v Condition d.cond).small (expr_right s v Value d.value).small (first_small ds))

  first_stands : (ds : List DefaultOf) → Stands v (first_levels s ds) (first_default s.shape c ds)
  first_stands ds = record {
    not_n = truth-any_of v _ ∙ parts_say NotN [] ds;
    is_y = truth-any_of v _ ∙ parts_say IsY [] ds;
    small = first_small ds;
  }

  pub visibility_stands : (k : ℕ) → Stands v (visibility_levels s k) (visibility_of s.shape c k)
  visibility_stands k = stands_some v (levels s Condition) (value_in s.shape c Condition) (expr_right s v Condition) (symbol_at s.shape k).prompts

  pub own_stands : (k : ℕ) → Stands v (own_levels s k) (own_value s.shape c k)
  own_stands k = stands_own v (counts_as s.shape k) k

  selected_stands : (x : Selecting) → Stands v (each (own_levels s x.by ∷ levels s Condition x.cond ∷ [])) (selected_by s.shape c x)
  selected_stands x = stands_pair v _ _ _ _ (own_stands x.by) (expr_right s v Condition x.cond)

  fused : (h : Level) (xs : List Selecting) → map (selected_at s h) xs ≡ map (at_level h) (map (λ x. each (own_levels s x.by ∷ levels s Condition x.cond ∷ [])) xs)
  fused h [] = refl
  fused NotN (x ∷ xs) = ap (λ fs. selected_at s NotN x ∷ fs) (fused NotN xs)
  fused IsY (x ∷ xs) = ap (λ fs. selected_at s IsY x ∷ fs) (fused IsY xs)

  selecting_stands : (xs : List Selecting) → Stands v (selecting_levels s xs) (greatest (map (selected_by s.shape c) xs))
  selecting_stands xs = rw (fused NotN xs, fused IsY xs) (stands_some v (λ x. each (own_levels s x.by ∷ levels s Condition x.cond ∷ [])) (selected_by s.shape c) selected_stands xs)

  pub reverse_stands : (k : ℕ) → Stands v (reverse_levels s k) (reverse_of s.shape c k)
  reverse_stands k = selecting_stands (selectors_of s.shape k)

  pub greatest_stands : (es : List Expr) → Stands v (greatest_levels s es) (greatest (map (value_in s.shape c Condition) es))
  greatest_stands es = stands_some v (levels s Condition) (value_in s.shape c Condition) (expr_right s v Condition) es

  default_by_stands : (k : ℕ) (xs : List Selecting) → Stands v (default_by s k xs) (weakened_to (greatest (map (selected_by s.shape c) xs)) (direct_of s.shape c k) (first_default s.shape c (symbol_at s.shape k).defaults))
  default_by_stands k [] = first_stands (symbol_at s.shape k).defaults
  default_by_stands k (x ∷ xs) = weak_stands v _ _ _ _ _ _ (selecting_stands (x ∷ xs)) (greatest_stands (symbol_at s.shape k).places) (first_stands (symbol_at s.shape k).defaults)

  -- the default gives way where the symbol is implied
  pub default_stands : (k : ℕ) → Stands v (default_levels s k) (default_of s.shape c k)
  default_stands k = default_by_stands k (impliers_of s.shape k)

-- Configurations of A and of B that depends on A: two that are valid, and what the rules say of all.
use Rattle.std.proofs.Common.{◌≡◌, ℕ, ◌<◌, ◌==◌, zero, suc, Bool, true, false, cond, refl, ap, sym, subst, ◌∙◌, arith, List, Option, None, Some, max, min, inr, codes}
use Rattle.std.proofs.lemmas.Bool.Decides.{nat_tests}
use Rattle.ut_logic.specs.declared.trit.Trit.TheVariants.{Y}
use Rattle.kconf_entries.specs.declared.expr.Expr.{Expr, out-Expr}
use Rattle.kconf_entries.specs.declared.expr.Expr.TheOpen.{Expr-F}
use Rattle.kconf_entries.specs.declared.expr.Expr.TheVariants.{Const, Name}
use Rattle.kconf_entries.specs.declared.expr.Expr.TheFolds.{fold_out-Expr, map-Expr}
use Rattle.kconf_tree.specs.declared.shape.Counts.TheVariants as counts
use Rattle.kconf_tree.specs.Shape.{Shape}
use Rattle.kconf_tree.specs.declared.place.Place.TheVariants.{Condition}
use Rattle.kconf_tree.specs.Value.{Configuration, value_of, value_step, name_value}
use Rattle.kconf_tree.specs.Properties.{visibility_of}
use Rattle.kconf_tree.specs.Valid.{calculate, HasValueBy, KeepsRules, IsValid}
use Rattle.worked_rows.specs.Texts.{two_tree}
use Rattle.worked_rows.proofs.Facts.{no_third, no_choice}
use Rattle.worked_rows.proofs.Layers.{out_name, out_y}

-- ---- the value of a condition

module _ (t : Shape) (c : Configuration) where
  -- by its outermost layer
  value_out : (e : Expr) → value_of t c e ≡ value_step t c Condition (map-Expr Expr ℕ (value_of t c) (out-Expr e))
  value_out e = fold_out-Expr ℕ (value_step t c Condition) e

  -- of a name
  value_name : (n : List ℕ) → value_of t c (Name n) ≡ name_value t c n
  value_name n = value_out (Name n) ∙ ap (λ (x : Expr-F Expr). value_step t c Condition (map-Expr Expr ℕ (value_of t c) x)) (out_name n)

  -- of the constant y
  pub value_y : value_of t c (Const Y) ≡ 2
  value_y = value_out (Const Y) ∙ ap (λ (x : Expr-F Expr). value_step t c Condition (map-Expr Expr ℕ (value_of t c) x)) out_y

-- ---- visibility

-- A is always visible
a_visible : (c : Configuration) → visibility_of two_tree c 0 ≡ 2
a_visible c = ap (λ v. max v 0) (value_y two_tree c)

-- B is visible as far as A goes
b_visible : (c : Configuration) → visibility_of two_tree c 1 ≡ c.value 0
b_visible c = ap (λ v. max v 0) (value_name two_tree c (codes "A")) ∙ zero_less (c.value 0)
  where
    zero_less : (v : ℕ) → max v 0 ≡ v
    zero_less v = omega arith

-- ---- two configurations

-- each symbol has this value, and undeclared names are read as y where this says so
abbrev pub all_at : ℕ → (List ℕ → Bool) → Configuration
all_at value undeclared = record { value = λ k. value; mode = λ i. 0; outer = λ k. false; undeclared = undeclared }

-- where no symbol is set, all are n
pub off_keeps_rules : (undeclared : List ℕ → Bool) → KeepsRules two_tree (all_at 0 undeclared)
off_keeps_rules undeclared = record {
  values = λ k lt. omega arith;
  setting = λ k. None;
  calculated = record { gives = λ k lt own. at k lt };
  choices = λ i lt. absurd (no_choice i lt);
}
  where
    at : (k : ℕ) → k < 2 → HasValueBy two_tree (all_at 0 undeclared) None k
    at zero lt = (tt, refl)
    at (suc zero) lt = (tt, refl)
    at (suc (suc k)) lt = absurd (no_third k lt)

-- where both are set to y, both are y
pub on_keeps_rules : (undeclared : List ℕ → Bool) → KeepsRules two_tree (all_at 2 undeclared)
on_keeps_rules undeclared = record {
  values = λ k lt. omega arith;
  setting = λ k. Some 2;
  calculated = record { gives = λ k lt own. at k lt };
  choices = λ i lt. absurd (no_choice i lt);
}
  where
    at : (k : ℕ) → k < 2 → HasValueBy two_tree (all_at 2 undeclared) (Some 2) k
    at zero lt = (inr refl, ap (λ v. calculate counts.Bool false v 0 0 (Some 2)) (a_visible (all_at 2 undeclared)))
    at (suc zero) lt = (inr refl, ap (λ v. calculate counts.Bool false v 0 0 (Some 2)) (b_visible (all_at 2 undeclared)))
    at (suc (suc k)) lt = absurd (no_third k lt)

-- with every undeclared name n they are valid
pub off_is_valid : IsValid two_tree (all_at 0 (λ name. false))
off_is_valid = record { rules = off_keeps_rules (λ name. false); undeclared_are_n = λ name. refl }

-- and likewise where both are y
pub on_is_valid : IsValid two_tree (all_at 2 (λ name. false))
on_is_valid = record { rules = on_keeps_rules (λ name. false); undeclared_are_n = λ name. refl }

-- ---- all configurations

-- a bool without default and selects is y only where it is visible
y_is_visible : (vis x : ℕ) (u : Option ℕ) → calculate counts.Bool false vis 0 0 u ≡ x → (x == 2) ≡ true → (vis == 0) ≡ false
y_is_visible vis x None h e = absurd (n_is_y x h e)
  where
    n_is_y : (x : ℕ) → 0 ≡ x → (x == 2) ≡ true → ⊥
    n_is_y x h e = grind (arith, nat_tests)
y_is_visible vis x (Some u) h e = by (vis == 0) refl h
  where
    n_is_y : (x : ℕ) → 0 ≡ x → (x == 2) ≡ true → ⊥
    n_is_y x h e = grind (arith, nat_tests)

    by : (b : Bool) → (vis == 0) ≡ b → cond (max (cond b 0 (min u vis)) 0 == 0) 0 2 ≡ x → (vis == 0) ≡ false
    by true i g = absurd (n_is_y x g e)
    by false i g = i

-- a bool without default is n or y
n_or_y : (vis x : ℕ) (u : Option ℕ) → calculate counts.Bool false vis 0 0 u ≡ x → (x == 0) ≡ false → (x == 2) ≡ true
n_or_y vis x u h e = by (max (Rattle.kconf_tree.specs.Valid.base_of vis 0 u) 0 == 0) h
  where
    zero_is : (x : ℕ) → 0 ≡ x → (x == 0) ≡ false → (x == 2) ≡ true
    zero_is x h e = grind (arith, nat_tests)

    two_is : (x : ℕ) → 2 ≡ x → (x == 2) ≡ true
    two_is x h = grind (arith, nat_tests)

    by : (b : Bool) → cond b 0 2 ≡ x → (x == 2) ≡ true
    by true g = zero_is x g e
    by false g = two_is x g

-- where the rules are kept, A is n or y
pub a_is_bool : (c : Configuration) → KeepsRules two_tree c → (c.value 0 == 0) ≡ false → (c.value 0 == 2) ≡ true
a_is_bool c r h = n_or_y (visibility_of two_tree c 0) (c.value 0) (r.setting 0) (r.calculated.gives 0 (omega arith) refl).1 h

-- where the rules are kept and B is y, A is y
pub b_needs_a : (c : Configuration) → KeepsRules two_tree c → (c.value 1 == 2) ≡ true → (c.value 0 == 2) ≡ true
b_needs_a c r h = n_or_y 2 (c.value 0) (r.setting 0) own_a (subst (λ v. (v == 0) ≡ false) (b_visible c) b_seen)
  where
    own_a : calculate counts.Bool false 2 0 0 (r.setting 0) ≡ c.value 0
    own_a = sym (ap (λ v. calculate counts.Bool false v 0 0 (r.setting 0)) (a_visible c)) ∙ (r.calculated.gives 0 (omega arith) refl).1

    b_seen : (visibility_of two_tree c 1 == 0) ≡ false
    b_seen = y_is_visible (visibility_of two_tree c 1) (c.value 1) (r.setting 1) (r.calculated.gives 1 (omega arith) refl).1 h

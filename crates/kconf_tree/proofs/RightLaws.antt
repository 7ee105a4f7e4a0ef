-- A symbol is right exactly where it has the value that it has without a user's setting, or with its own
-- value as the setting; and one setting for all symbols is one for each.
use Rattle.std.proofs.Common.{◌≡◌, ℕ, ◌≤◌, ◌<◌, ◌==◌, Bool, true, false, cond, refl, sym, subst, arith, length, Option, None, Some, ◌⊎◌, inl, inr}
use Rattle.std.proofs.lemmas.Grind.{common_steps}
use Rattle.std.proofs.lemmas.Bool.Decides.{nat_tests}
use Rattle.std.proofs.lemmas.Bool.{cases_lt}
use Rattle.kconf_tree.specs.declared.shape.Counts.{Counts}
use Rattle.kconf_tree.specs.declared.shape.Counts.TheVariants as counts
use Rattle.kconf_tree.specs.Shape.{Shape, counts_as, is_member}
use Rattle.kconf_tree.specs.Value.{Configuration, has_modules}
use Rattle.kconf_tree.specs.Properties.{visibility_of, reverse_of, default_of}
use Rattle.kconf_tree.specs.Valid.{calculate, Fits, HasValueBy, IsSettingOf}
use Rattle.kconf_tree.specs.Right.{IsRight, is_settled, is_right}
use Rattle.kconf_tree.proofs.Small.{on_three, at_three, or_cases, number_is}

-- a value under any setting is settled: tried for all values
abbrev keeps : Counts → Bool → ℕ → ℕ → ℕ → ℕ → Bool
keeps kind on vis rev def u = is_settled kind on vis rev def (calculate kind on vis rev def (Some u))

abbrev tried : Counts → Bool → Bool
tried kind on = on_three (λ vis. on_three (λ rev. on_three (λ def. on_three (λ u. keeps kind on vis rev def u))))

by_trial : (kind : Counts) (on : Bool) (vis rev def u : ℕ) → tried kind on ≡ true → vis ≤ 2 → rev ≤ 2 → def ≤ 2 → u ≤ 2 → keeps kind on vis rev def u ≡ true
by_trial kind on vis rev def u h a b c d = at_three (λ u. keeps kind on vis rev def u)
    (at_three (λ def. on_three (λ u. keeps kind on vis rev def u))
    (at_three (λ rev. on_three (λ def. on_three (λ u. keeps kind on vis rev def u)))
    (at_three (λ vis. on_three (λ rev. on_three (λ def. on_three (λ u. keeps kind on vis rev def u)))) h vis a) rev b) def c) u d

all_tried : (kind : Counts) (on : Bool) → tried kind on ≡ true
all_tried counts.Bool true = refl
all_tried counts.Bool false = refl
all_tried counts.Tristate true = refl
all_tried counts.Tristate false = refl
all_tried counts.Neither true = refl
all_tried counts.Neither false = refl

fits_small : (kind : Counts) (u : ℕ) → Fits kind (Some u) → u ≤ 2
fits_small counts.Bool u h = elim h [ inl e ↦ omega arith | inr e ↦ omega arith ]
fits_small counts.Tristate u h = h
fits_small counts.Neither u h = absurd h

pub settled_by : (kind : Counts) (on : Bool) (vis rev def x : ℕ) (u : Option ℕ) → vis ≤ 2 → rev ≤ 2 → def ≤ 2 → Fits kind u → calculate kind on vis rev def u ≡ x → is_settled kind on vis rev def x ≡ true
settled_by kind on vis rev def x None a b c f e = grind (arith, common_steps, nat_tests)
settled_by kind on vis rev def x (Some u) a b c f e = subst (λ (y : ℕ). is_settled kind on vis rev def y ≡ true) e (by_trial kind on vis rev def u (all_tried kind on) a b c (fits_small kind u f))

-- ---- and back

bool_fits : (n x : ℕ) → cond (n == 0) 0 2 ≡ x → (x ≡ 0) ⊎ (x ≡ 2)
bool_fits n x h = by (n == 0) h
  where
    by : (b : Bool) → cond b 0 2 ≡ x → (x ≡ 0) ⊎ (x ≡ 2)
    by true g = inl (sym g)
    by false g = inr (sym g)

fits_own : (kind : Counts) (on : Bool) (vis rev def x : ℕ) → x ≤ 2 → calculate kind on vis rev def (Some x) ≡ x → (u : Option ℕ) × (Fits kind u × (calculate kind on vis rev def u ≡ x))
fits_own counts.Bool on vis rev def x s h = (Some x, (bool_fits _ x h, h))
fits_own counts.Tristate on vis rev def x s h = (Some x, (s, h))
fits_own counts.Neither on vis rev def x s h = (None, (tt, h))

pub by_settled : (kind : Counts) (on : Bool) (vis rev def x : ℕ) → x ≤ 2 → is_settled kind on vis rev def x ≡ true → (u : Option ℕ) × (Fits kind u × (calculate kind on vis rev def u ≡ x))
by_settled kind on vis rev def x s h = elim (or_cases (calculate kind on vis rev def None == x) (calculate kind on vis rev def (Some x) == x) h) [
  | inl a ↦ (None, (tt, number_is _ _ a))
  | inr b ↦ fits_own kind on vis rev def x s (number_is _ _ b)
]

-- the test is the demand
pub right_by_test : (t : Shape) (c : Configuration) (k : ℕ) → c.value k ≤ 2 → is_right t c k ≡ true → IsRight t c k
right_by_test t c k s h = by_settled (counts_as t k) (has_modules t c) (visibility_of t c k) (reverse_of t c k) (default_of t c k) (c.value k) s h

pub test_by_right : (t : Shape) (c : Configuration) (k : ℕ) → visibility_of t c k ≤ 2 → reverse_of t c k ≤ 2 → default_of t c k ≤ 2 → IsRight t c k → is_right t c k ≡ true
test_by_right t c k a b d r = settled_by (counts_as t k) (has_modules t c) (visibility_of t c k) (reverse_of t c k) (default_of t c k) (c.value k) r.0 a b d r.1.0 r.1.1

-- ---- one setting for all symbols is one for each

-- the setting is chosen for each number by itself
abbrev Chosen : Shape → Configuration → ℕ → Type 0
Chosen t c k = (u : Option ℕ) × (k < length t.symbols → is_member t k ≡ false → HasValueBy t c u k)

chosen : (t : Shape) (c : Configuration) → ((k : ℕ) → k < length t.symbols → is_member t k ≡ false → IsRight t c k) → (k : ℕ) → Chosen t c k
chosen t c h k = by_size (cases_lt k (length t.symbols)) (is_member t k) refl
  where
    by_size : (k < length t.symbols) ⊎ (length t.symbols ≤ k) → (b : Bool) → is_member t k ≡ b → Chosen t c k
    by_size (inl lt) false e = ((h k lt e).0, λ l m. (h k lt e).1)
    by_size (inl lt) true e = (None, λ l m. absurd (cc))
    by_size (inr ge) b e = (None, λ l m. absurd (omega arith))

pub setting_from_right : (t : Shape) (c : Configuration) → ((k : ℕ) → k < length t.symbols → is_member t k ≡ false → IsRight t c k) → (setting : ℕ → Option ℕ) × IsSettingOf t c setting
setting_from_right t c h = (λ k. (chosen t c h k).0, record { gives = λ k. (chosen t c h k).1 })

-- Facts on the values 0, 1 and 2, by trying all of them.
use Rattle.std.proofs.Common.{◌≡◌, ℕ, ◌≤◌, zero, suc, Bool, true, false, ◌&&◌, ◌||◌, refl, arith, ◌⊎◌, inl, inr}
use Rattle.std.proofs.lemmas.Bool.Decides.{nat_tests}
use Rattle.std.specs.Prelude.{◌==◌}

abbrev pub on_three : (ℕ → Bool) → Bool
on_three p = p 0 && (p 1 && p 2)

pub and_left : (a b : Bool) → (a && b) ≡ true → a ≡ true
and_left true b h = refl
and_left false b h = h

pub and_right : (a b : Bool) → (a && b) ≡ true → b ≡ true
and_right true b h = h
and_right false b h = absurd (cc)

pub both_true : (a b : Bool) → a ≡ true → b ≡ true → (a && b) ≡ true
both_true true b h g = g
both_true false b h g = absurd (cc)

pub or_left : (a b : Bool) → a ≡ true → (a || b) ≡ true
or_left true b h = refl
or_left false b h = absurd (cc)

pub or_right : (a b : Bool) → b ≡ true → (a || b) ≡ true
or_right true b h = refl
or_right false b h = h

pub or_cases : (a b : Bool) → (a || b) ≡ true → (a ≡ true) ⊎ (b ≡ true)
or_cases true b h = inl refl
or_cases false b h = inr h

pub or_left_false : (a b : Bool) → (a || b) ≡ false → a ≡ false
or_left_false true b h = h
or_left_false false b h = refl

pub or_right_false : (a b : Bool) → (a || b) ≡ false → b ≡ false
or_right_false true b h = absurd (cc)
or_right_false false b h = h

pub number_is : (j k : ℕ) → (j == k) ≡ true → j ≡ k
number_is j k h = grind (arith, nat_tests)

pub number_self : (k : ℕ) → (k == k) ≡ true
number_self k = grind (arith, nat_tests)

pub is_off : (b : Bool) → (b ≡ true → ⊥) → b ≡ false
is_off true h = absurd (h refl)
is_off false h = refl

pub at_three : (p : ℕ → Bool) → on_three p ≡ true → (x : ℕ) → x ≤ 2 → p x ≡ true
at_three p h zero k = and_left (p 0) (p 1 && p 2) h
at_three p h (suc zero) k = and_left (p 1) (p 2) (and_right (p 0) (p 1 && p 2) h)
at_three p h (suc (suc zero)) k = and_right (p 1) (p 2) (and_right (p 0) (p 1 && p 2) h)
at_three p h (suc (suc (suc x))) k = absurd (omega arith)

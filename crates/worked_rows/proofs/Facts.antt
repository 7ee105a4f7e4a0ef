-- Small facts on numbers and truths.
use Rattle.std.proofs.Common.{◌≡◌, ℕ, ◌<◌, suc, Bool, true, false, not, ◌&&◌, refl, ap, arith}

-- two symbols have the numbers 0 and 1
pub no_third : (k : ℕ) → suc (suc k) < 2 → ⊥
no_third k h = omega arith

-- where there are no choices, none has a number
pub no_choice : (i : ℕ) → i < 0 → ⊥
no_choice i h = omega arith

-- what follows from a truth isn't false beside it
pub without_fails : (a b : Bool) → (a ≡ true → b ≡ true) → (a && not b) ≡ false
without_fails false b h = refl
without_fails true b h = ap not (h refl)

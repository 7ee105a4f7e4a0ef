-- Laws of numbers: digits never make a value smaller, so that a value past 128 bits stays so.
use Rattle.std.proofs.Common.{◌≡◌, ℕ, ◌+◌, ◌*◌, ◌^◌, ◌<◌, ◌≤◌, ◌∷◌, Bool, true, false, [], refl, sym, arith}
use Rattle.std.specs.Prelude.{nat_lt, None, Some}
use borrow.Author.Tests.{ltb-true, ltb-false}
use Rattle.ut_text.specs.Bytes.{Bytes}
use Rattle.cpp_read.specs.declared.number.Base.{Base}
use Rattle.cpp_read.specs.declared.number.Base.TheVariants.{Octal, Decimal, Hexadecimal}
use Rattle.cpp_read.specs.Numbers.{digits, digit_value}
use Rattle.cpp_read.specs.NumberSteps.{capped, base_of}

onward : (base : Base) (v d w : ℕ) → v * base_of base + d ≤ w → v ≤ w
onward Octal v d w h = omega arith
onward Decimal v d w h = omega arith
onward Hexadecimal v d w h = omega arith

pub grows : (base : Base) (v : ℕ) (s : Bytes) → v ≤ digits (base_of base) v s
grows base v [] = omega arith
grows base v (b ∷ s) = onward base v (digit_value b) (digits (base_of base) (v * base_of base + digit_value b) s) (grows base (v * base_of base + digit_value b) s)

pub capped_some : (n m : ℕ) → Some m ≡ capped n → (m ≡ n) × (m < 2 ^ 128)
capped_some n m h = by (nat_lt n (2 ^ 128)) refl h
  where
    by : (b : Bool) → nat_lt n (2 ^ 128) ≡ b → Some m ≡ capped n → (m ≡ n) × (m < 2 ^ 128)
    by true e h =
        let k = rw e at h in
        let is : m ≡ n = cc in
        (is, rw is (ltb-true n (2 ^ 128) e))
    by false e h = let k = rw e at h in cc

pub some_capped : (n : ℕ) → n < 2 ^ 128 → Some n ≡ capped n
some_capped n h = by (nat_lt n (2 ^ 128)) refl
  where
    by : (b : Bool) → nat_lt n (2 ^ 128) ≡ b → Some n ≡ capped n
    by true e = rw e refl
    by false e = absurd (omega (arith, ltb-false n (2 ^ 128) e, h))

pub none_capped : (n m : ℕ) → None ≡ capped n → n ≤ m → None ≡ capped m
none_capped n m h k = by (nat_lt n (2 ^ 128)) (nat_lt m (2 ^ 128)) refl refl
  where
    by : (a b : Bool) → nat_lt n (2 ^ 128) ≡ a → nat_lt m (2 ^ 128) ≡ b → None ≡ capped m
    by true b e f = let q = rw e at h in cc
    by false true e f = absurd (omega (arith, ltb-false n (2 ^ 128) e, ltb-true m (2 ^ 128) f, k))
    by false false e f = rw f refl

-- a value that is past 128 bits with one more digit is so with all
pub stays_wide : (base : Base) (v b : ℕ) (rest s : Bytes) (n : ℕ) → None ≡ capped (v * base_of base + digit_value b) → s ≡ b ∷ rest → digits (base_of base) v s ≡ n → None ≡ capped n
stays_wide base v b rest s n h is w = none_capped (v * base_of base + digit_value b) n h (rw (sym w, is) (grows base (v * base_of base + digit_value b) rest))

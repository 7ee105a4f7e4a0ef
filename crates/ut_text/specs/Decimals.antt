-- Decimal numbers as they stand in a text: `decimal n`, which is std's, has no leading zero, and `0` is the zero.
-- A number that is read is below 2 ^ 64 and ends before the first byte that is no digit. This project's rule.
use Rattle.std.specs.Prelude.{◌≡◌, ℕ, ◌+◌, ◌-◌, ◌*◌, ◌<◌, ◌^◌, Bool, false, [], ◌∷◌, ◌++◌, decimal}
use Rattle.ut_text.specs.Bytes.{Bytes}
use Rattle.ut_text.specs.ByteClasses.{is_digit}

-- the number that digits stand for after digits that stand for n; 48 is the byte of `0`
abbrev pub value_after : ℕ → Bytes → ℕ
value_after n [] = n
value_after n (c ∷ cs) = value_after (10 * n + (c - 48)) cs

-- whether the first byte is a digit
abbrev pub begins_with_digit : Bytes → Bool
begins_with_digit [] = false
begins_with_digit (c ∷ cs) = is_digit c

-- a number, and after it no digit
pub record IsNumberThen (bytes : Bytes) (n : ℕ) (rest : Bytes) : Type 0 where
  pub fits : n < 2 ^ 64
  pub text : bytes ≡ decimal n ++ rest
  pub ends : begins_with_digit rest ≡ false

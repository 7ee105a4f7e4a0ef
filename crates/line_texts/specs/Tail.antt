-- What is at the end of some bytes, and what is left before it. This project's rule.
use Rattle.std.specs.Prelude.{◌≡◌, ℕ, ◌<◌, ◌^◌, Bool, false, [], ◌∷◌, ◌++◌, decimal}
use Rattle.ut_text.specs.Bytes.{Bytes}
use Rattle.ut_text.specs.ByteClasses.{is_digit}

-- whether the last byte is a digit
abbrev pub ends_with_digit : Bytes → Bool
ends_with_digit [] = false
ends_with_digit (b ∷ []) = is_digit b
ends_with_digit (b ∷ c ∷ bytes) = ends_with_digit (c ∷ bytes)

-- a number below 2 ^ 64, without a leading zero, and before it no digit
pub record IsNumberAfter (bytes : Bytes) (n : ℕ) (rest : Bytes) : Type 0 where
  pub fits : n < 2 ^ 64
  pub text : bytes ≡ rest ++ decimal n
  pub ends : ends_with_digit rest ≡ false

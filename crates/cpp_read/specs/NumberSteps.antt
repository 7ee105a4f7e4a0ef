-- What the readers of numbers promise each other.
-- This project's own; no contract of a public call rests on it.
use Rattle.std.specs.Prelude.{ℕ, Bool, ◌^◌, nat_lt, Option, None, Some, if◌then◌else◌}
use Rattle.cpp_read.specs.declared.number.Base.{Base}
use Rattle.cpp_read.specs.declared.number.Base.TheVariants.{Octal, Decimal, Hexadecimal}
use Rattle.ut_text.specs.ByteClasses.{is_digit, is_hex_digit}
use Rattle.cpp_read.specs.Numbers.{is_octal}

-- a number, if it needs at most 128 bits
abbrev pub capped : ℕ → Option ℕ
capped n = if nat_lt n (2 ^ 128) then Some n else None

-- the base of digits
abbrev pub base_of : Base → ℕ
base_of Octal = 8
base_of Decimal = 10
base_of Hexadecimal = 16

-- the digits of a base
abbrev pub is_one_of : Base → ℕ → Bool
is_one_of Octal = is_octal
is_one_of Decimal = is_digit
is_one_of Hexadecimal = is_hex_digit

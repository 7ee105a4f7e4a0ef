-- Whole numbers: decimal, octal or hexadecimal digits with an ending of u, U, l and L spliced_bytes, and their values.
-- Rule: ISO C, "Integer constants"; any ending of these spliced_bytes is allowed.
use Rattle.std.specs.Prelude.{ℕ, ◌+◌, ◌-◌, ◌*◌, ◌^◌, Bool, false, ◌==◌, ◌&&◌, nat_le, nat_lt, codes, take, drop, Option, None, Some, [], ◌∷◌, if◌then◌else◌}
use Rattle.std.specs.List.{list_all, prefix_len}
use Rattle.std.specs.Int.{is_in_range}
use Rattle.ut_text.specs.Bytes.{Bytes}
use Rattle.cpp_read.specs.Characters.{digit_zero, is_any_of}
use Rattle.cpp_read.specs.declared.number.Whole.{Whole}
use Rattle.cpp_read.specs.declared.number.Whole.TheVariants.{NotWhole, Zero, Nonzero, Wide}
use Rattle.ut_text.specs.ByteClasses.{is_digit, is_hex_digit}

-- a digit from 0 to 7
abbrev pub is_octal : ℕ → Bool
is_octal b = is_in_range 48 55 b

-- the value of a digit of any base, where 48 is the byte of `0`, 97 that of `a` and 65 that of `A`
abbrev pub digit_value : ℕ → ℕ
digit_value b = if is_digit b then b - 48 else if nat_le 97 b then b - 87 else b - 55

-- digits after a value, to a base
abbrev pub digits : ℕ → ℕ → Bytes → ℕ
digits base value [] = value
digits base value (b ∷ s) = digits base (value * base + digit_value b) s

-- u, U, l or L
abbrev pub is_ending : ℕ → Bool
is_ending b = is_any_of (codes "uUlL") b

-- a digit or more, and an ending
abbrev pub value_to : ℕ → (ℕ → Bool) → Bytes → Option ℕ
value_to base is_one s =
    if nat_lt 0 (prefix_len is_one s) && list_all is_ending (drop (prefix_len is_one s) s)
    then Some (digits base 0 (take (prefix_len is_one s) s)) else None

-- x or X
abbrev pub is_x : ℕ → Bool
is_x b = is_any_of (codes "xX") b

-- `0x`
abbrev pub begins_hex : Bytes → Bool
begins_hex [] = false
begins_hex (a ∷ []) = false
begins_hex (a ∷ b ∷ s) = a == digit_zero && is_x b

-- `0`
abbrev pub begins_zero : Bytes → Bool
begins_zero [] = false
begins_zero (a ∷ s) = a == digit_zero

-- the value of a whole number: hexadecimal after 0x, octal from 0 on, else decimal
abbrev pub whole_value : Bytes → Option ℕ
whole_value s =
    if begins_hex s then value_to 16 is_hex_digit (drop 2 s)
    else if begins_zero s then value_to 8 is_octal s else value_to 10 is_digit s

-- whether a text is a whole number, which is 0, which needs at most 128 bits
abbrev pub whole_of : Option ℕ → Whole
whole_of None = NotWhole
whole_of (Some n) = if n == 0 then Zero else if nat_lt n (2 ^ 128) then Nonzero else Wide

-- the same of a text
abbrev pub whole : Bytes → Whole
whole text = whole_of (whole_value text)

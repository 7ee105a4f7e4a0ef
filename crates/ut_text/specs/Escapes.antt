-- Bytes of a file as a text of ASCII characters. This project's rule.
use Rattle.std.specs.Prelude.{ℕ, [], ◌∷◌, ◌++◌, ◌+◌, ◌-◌, ◌/◌, ◌%◌, if◌then◌else◌, nat_lt, codes}
use Rattle.ut_text.specs.Bytes.{Bytes}

-- a digit to the base 16, in lower case: 48 is the byte of `0`, 97 that of `a`
abbrev pub hex_digit : ℕ → ℕ
hex_digit value = if nat_lt value 10 then 48 + value else 97 + (value - 10)

-- a byte below 128 is itself; another is `\x` and its two digits
abbrev pub escape : ℕ → Bytes
escape byte = if nat_lt byte 128 then byte ∷ [] else codes "\\x" ++ hex_digit (byte / 16) ∷ hex_digit (byte % 16) ∷ []

-- each byte escaped, in order
abbrev pub escaped : Bytes → Bytes
escaped [] = []
escaped (byte ∷ bytes) = escape byte ++ escaped bytes

-- Classes of bytes, all of them of ASCII. Rules: ISO C, "Identifiers", for letters, digits and names; that the blanks
-- of Kconfig and Kbuild are the space and the tab is this project's.
use Rattle.std.specs.Prelude.{ℕ, Bool, ◌==◌, ◌||◌}
use Rattle.std.specs.Char.{is_ascii_uppercase, is_ascii_lowercase, is_ascii_digit}
use Rattle.std.specs.Int.{is_in_range}
use Rattle.ut_text.specs.Bytes.{space, tab, underscore}

-- a letter from A to Z
abbrev pub is_capital : ℕ → Bool
is_capital b = is_ascii_uppercase b

-- a letter from A to Z or from a to z
abbrev pub is_letter : ℕ → Bool
is_letter b = is_capital b || is_ascii_lowercase b

-- a digit from 0 to 9
abbrev pub is_digit : ℕ → Bool
is_digit b = is_ascii_digit b

-- a digit from 0 to 9, from A to F or from a to f
abbrev pub is_hex_digit : ℕ → Bool
is_hex_digit b = is_digit b || is_in_range 65 70 b || is_in_range 97 102 b

-- the first byte of a C name: a letter or `_`
abbrev pub begins_names : ℕ → Bool
begins_names b = is_letter b || b == underscore

-- a byte of a name: a letter, a digit or `_`
abbrev pub is_name_byte : ℕ → Bool
is_name_byte b = begins_names b || is_digit b

-- a space or a tab
abbrev pub is_blank : ℕ → Bool
is_blank b = b == space || b == tab

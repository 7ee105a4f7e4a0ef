-- The forms of values: numbers, and values for macros. This project's rule; a macro has a name as symbols do (Linux
-- kconfig-language, "Menu entries").
use Rattle.std.specs.Prelude.{ℕ, Bool, true, ◌&&◌, ◌||◌, ◌==◌, not, nat_le, codes, bytes_eq, length, drop, map, List, [], ◌∷◌, if◌then◌else◌}
use Rattle.std.specs.List.{list_all, list_any, before_first, after_first, slice_split}
use Rattle.kconf_entries.specs.declared.entries.Var.{Var}
use Rattle.ut_text.specs.Bytes.{Bytes}
use Rattle.ut_text.specs.ByteClasses.{is_digit, is_hex_digit, is_name_byte}
use Rattle.ut_text.specs.Decimals.{value_after}
use Rattle.ut_words.specs.Spelled.{begins_with, is_sign}

-- the most digits of a number
abbrev pub number_digits : ℕ
number_digits = 13

-- one byte of this kind or more, and no other
abbrev pub all_and_some : (ℕ → Bool) → Bytes → Bool
all_and_some is text = not (length text == 0) && list_all is text

-- 1 to 13 digits without a leading zero, except `0`
abbrev pub is_number : Bytes → Bool
is_number text =
    all_and_some is_digit text
    && (nat_le (length text) number_digits && (bytes_eq text (codes "0") || not (begins_with (codes "0") text)))

-- the number that digits stand for
abbrev pub number_of : Bytes → ℕ
number_of text = value_after 0 text

-- digits, or `0x` and hexadecimal digits
abbrev pub is_literal : Bytes → Bool
is_literal text = all_and_some is_digit text || (begins_with (codes "0x") text && all_and_some is_hex_digit (drop 2 text))

-- one of these texts
abbrev pub is_one_of : List Bytes → Bytes → Bool
is_one_of texts text = list_any (bytes_eq text) texts

-- the name of a macro: letters, digits and `_`, and neither a literal nor a constant
abbrev pub is_macro_name : Bytes → Bool
is_macro_name text =
    all_and_some is_name_byte text && (not (is_literal text) && not (is_one_of (codes "y" ∷ codes "m" ∷ codes "n" ∷ []) text))

-- no text stands twice
abbrev pub are_distinct : List Bytes → Bool
are_distinct [] = true
are_distinct (text ∷ texts) = not (is_one_of texts text) && are_distinct texts

-- a character of ASCII from the space to `~`
abbrev pub is_printable : ℕ → Bool
is_printable byte = nat_le 32 byte && nat_le byte 126

-- `NAME=VALUE`, with a value of printable characters
abbrev pub is_item : Bytes → Bool
is_item item =
    list_any is_sign item && (is_macro_name (before_first is_sign item) && list_all is_printable (after_first is_sign item))

-- `,`, the sign between two items
abbrev pub is_comma : ℕ → Bool
is_comma byte = byte == 44

-- the items that commas join; the empty text has none
abbrev pub items_of : Bytes → List Bytes
items_of text = if length text == 0 then [] else slice_split is_comma text

-- what an item says
abbrev pub var_of : Bytes → Var
var_of item = record { name = before_first is_sign item; value = after_first is_sign item }

-- what a text says for macros
abbrev pub vars_of : Bytes → List Var
vars_of text = map var_of (items_of text)

-- items, and no name twice
abbrev pub are_vars : Bytes → Bool
are_vars text = list_all is_item (items_of text) && are_distinct (map (before_first is_sign) (items_of text))

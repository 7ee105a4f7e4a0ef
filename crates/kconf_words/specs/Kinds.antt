-- What a word is: a constant, a name or a literal. The constants y, m and n may be quoted, and are never names.
-- Rule: Linux kconfig-language, "Menu dependencies"; what counts as a literal is this project's.
use Rattle.std.specs.Prelude.{ℕ, Bool, true, false, not, ◌&&◌, ◌||◌, bytes_eq, nat_eq, codes, drop, Option, None, Some, [], ◌∷◌, if◌then◌else◌}
use Rattle.std.specs.Option.{is_some}
use Rattle.std.specs.List.{list_all, starts_with}
use Rattle.ut_logic.specs.declared.trit.Trit.{Trit}
use Rattle.ut_logic.specs.declared.trit.Trit.TheVariants.{N, M, Y}
use Rattle.ut_text.specs.Escapes.{escaped}
use Rattle.kconf_words.specs.declared.line_words.Form.{Form}
use Rattle.kconf_words.specs.declared.line_words.Form.TheVariants.{Bare, Quoted, Sign}
use Rattle.kconf_words.specs.declared.line_words.LineWord.{LineWord}
use Rattle.ut_text.specs.Bytes.{Bytes}
use Rattle.ut_text.specs.ByteClasses.{is_digit, is_hex_digit, is_name_byte}

-- the word as a text
abbrev pub text_of : LineWord → Bytes
text_of w = escaped w.text

-- one byte of this kind or more, and no other
abbrev pub all_and_some : (ℕ → Bool) → Bytes → Bool
all_and_some is [] = false
all_and_some is (b ∷ s) = is b && list_all is s

-- digits, with or without `-` before them, or `0x` and hexadecimal digits
abbrev pub is_number : Bytes → Bool
is_number text = all_and_some is_digit text
    || (starts_with nat_eq text (codes "-") && all_and_some is_digit (drop 1 text))
    || (starts_with nat_eq text (codes "0x") && all_and_some is_hex_digit (drop 2 text))

-- the value of a constant
abbrev pub constant : Bytes → Option Trit
constant text = if bytes_eq text (codes "y") then Some Y
    else if bytes_eq text (codes "m") then Some M
    else if bytes_eq text (codes "n") then Some N else None

-- the value of a word that is a constant, quoted or not
abbrev pub constant_of : LineWord → Option Trit
constant_of w = constant w.text

-- letters, digits and `_`, and neither a number nor a constant
abbrev pub is_name_text : Bytes → Bool
is_name_text text = all_and_some is_name_byte text && not (is_number text) && not (is_some (constant text))

-- an unquoted word
abbrev pub is_bare_form : Form → Bool
is_bare_form Bare = true
is_bare_form Quoted = false
is_bare_form Sign = false

-- an unquoted word that is a name
abbrev pub is_name : LineWord → Bool
is_name w = is_bare_form w.form && is_name_text w.text

-- an unquoted word without a macro call that is neither a name nor a constant
abbrev pub is_literal : LineWord → Bool
is_literal w = is_bare_form w.form && not w.has_call && not (is_name_text w.text) && not (is_some (constant w.text))

-- whether a word is this one, without quote marks
abbrev pub is_word : Bytes → LineWord → Bool
is_word text w = is_bare_form w.form && bytes_eq w.text text

-- a text is a quoted word or an unquoted one, but no sign
abbrev pub is_text_form : Form → Bool
is_text_form Bare = true
is_text_form Quoted = true
is_text_form Sign = false

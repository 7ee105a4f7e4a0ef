-- What is at the front of some bytes, and what is left after it: names, and texts between quotation marks.
-- (Numbers are those of `ut_text`.) That a quoted text has one spelling is this project's rule.
use Rattle.std.specs.Prelude.{◌≡◌, ℕ, ◌<◌, ◌==◌, Bool, false, [], ◌∷◌, ◌++◌, if◌then◌else◌, length, codes}
use Rattle.std.specs.List.{flat_map, AllPass}
use Rattle.ut_text.specs.Bytes.{Bytes, tab}
use Rattle.ut_text.specs.ByteClasses.{is_name_byte}

-- whether the first byte passes the test
abbrev pub begins_with : (ℕ → Bool) → Bytes → Bool
begins_with test [] = false
begins_with test (b ∷ bytes) = test b

-- a name of letters, digits and `_`, and after it no such byte
pub record IsNameThen (bytes name rest : Bytes) : Type 0 where
  pub some : 0 < length name
  pub of_names : AllPass is_name_byte name
  pub text : bytes ≡ name ++ rest
  pub ends : begins_with is_name_byte rest ≡ false

-- the quotation mark and the backslash
abbrev pub mark : ℕ
mark = 34

abbrev pub backslash : ℕ
backslash = 92

-- a byte between quotation marks: `\"`, `\\` and `\t` are the mark, the backslash and the tab
abbrev pub quoted_byte : ℕ → Bytes
quoted_byte b =
    if b == mark then codes "\\\""
    else (if b == backslash then codes "\\\\" else (if b == tab then codes "\\t" else b ∷ []))

-- a text between quotation marks
abbrev pub quoted : Bytes → Bytes
quoted text = codes "\"" ++ flat_map quoted_byte text ++ codes "\""

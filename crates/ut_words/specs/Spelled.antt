-- How one word of the command line is spelled, by itself. This project's rule.
use Rattle.std.specs.Prelude.{ℕ, Bool, ◌||◌, ◌==◌, not, nat_eq, codes, bytes_eq, Option, None, Some, [], ◌∷◌, if◌then◌else◌}
use Rattle.std.specs.List.{starts_with, list_any, before_first, after_first}
use Rattle.ut_text.specs.Bytes.{Bytes}

-- a plain word; `--`; or an option by its name with the hyphens, and the value that stands in the same word, if any
pub data Spelled : Type 0 where
  Plain : Spelled
  Dashes : Spelled
  Named : Bytes → Option Bytes → Spelled

-- a text begins with these bytes
abbrev pub begins_with : Bytes → Bytes → Bool
begins_with bytes text = starts_with nat_eq text bytes

-- a word that doesn't begin with `-`, or `-` alone: a FILE, or the value of the option before it
abbrev pub is_plain : Bytes → Bool
is_plain word = not (begins_with (codes "-") word) || bytes_eq word (codes "-")

-- `=`, the sign between a name and its value
abbrev pub is_sign : ℕ → Bool
is_sign byte = byte == 61

-- the value after the first `=`, if there is one
abbrev pub after_sign : Bytes → Option Bytes
after_sign text = if list_any is_sign text then Some (after_first is_sign text) else None

-- `--NAME=VALUE` or `--NAME`
abbrev pub long_spelled : Bytes → Spelled
long_spelled (hyphen ∷ second ∷ text) = Spelled.Named (hyphen ∷ second ∷ before_first is_sign text) (after_sign text)
long_spelled word = Spelled.Plain

-- the value after the letter of an option: joined, or after `=`
abbrev pub joined : Bytes → Option Bytes
joined [] = None
joined (byte ∷ text) = Some (if is_sign byte then text else byte ∷ text)

-- `-LVALUE`, `-L=VALUE` or `-L` with a letter L
abbrev pub short_spelled : Bytes → Spelled
short_spelled (hyphen ∷ letter ∷ text) = Spelled.Named (hyphen ∷ letter ∷ []) (joined text)
short_spelled word = Spelled.Plain

-- how a word is spelled
abbrev pub spelled : Bytes → Spelled
spelled word = if is_plain word then Spelled.Plain
    else if bytes_eq word (codes "--") then Spelled.Dashes
    else if begins_with (codes "--") word then long_spelled word else short_spelled word

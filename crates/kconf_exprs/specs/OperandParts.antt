-- What the readers of operands promise each other.
use Rattle.std.specs.Prelude.{Bool, false, not, ◌++◌, ◌∷◌}
use Rattle.std.specs.Option.{is_some}
use Rattle.ut_text.specs.Escapes.{escaped}
use Rattle.ut_logic.specs.declared.trit.Trit.{Trit}
use Rattle.std.specs.Prelude.{Option}
use Rattle.ut_text.specs.Bytes.{Bytes}
use Rattle.kconf_words.specs.declared.line_words.Form.{Form}
use Rattle.kconf_words.specs.declared.line_words.Form.TheVariants as form
use Rattle.kconf_words.specs.declared.line_words.LineWord.{LineWord}
use Rattle.kconf_words.specs.Kinds as kinds
use Rattle.kconf_exprs.specs.Grammar.{written}

abbrev pub constant_of : LineWord → Option Trit
constant_of w = kinds.constant_of w

-- whether a side is written between quote marks
abbrev pub quoted_by : Form → Bool → Bool
quoted_by form.Quoted constant = not constant
quoted_by f constant = false

abbrev pub is_written_quoted : LineWord → Bool
is_written_quoted w = quoted_by w.form (is_some (kinds.constant_of w))

-- a comparison as it is written
abbrev pub comparison_text : LineWord → LineWord → LineWord → Bytes
comparison_text a s b = escaped (written a ++ 32 ∷ s.text ++ 32 ∷ written b)

-- What the readers of lines promise each other.
use Rattle.std.specs.Prelude.{◌≡◌, ℕ, ◌-◌, ◌<◌, Bool, true, false, ◌==◌, ◌||◌, nat_le, length, drop, slice_get, Option, None, Some, List, [], ◌∷◌}
use Rattle.std.specs.List.{list_all, prefix_len}
use Rattle.ut_text.specs.Bytes.{Bytes, backslash}
use Rattle.ut_text.specs.ByteClasses.{is_blank}
use Rattle.kconf_lines.specs.declared.cursor.LineText.{LineText}
use Rattle.kconf_lines.specs.declared.cursor.LineText.TheVariants.{Whole, Joined}
use Rattle.kconf_lines.specs.declared.cursor.LogicalLine.{LogicalLine}
use Rattle.kconf_lines.specs.declared.cursor.PhysicalLine.{PhysicalLine}
use Rattle.kconf_lines.specs.Lines.{Line}
use Rattle.kconf_lines.specs.HelpTexts.{indented_from, indentation}
use Rattle.kconf_lines.specs.LogicalLines.{first_line}

-- whether the last byte is a backslash
abbrev pub is_backslash : Option ℕ → Bool
is_backslash None = false
is_backslash (Some b) = b == backslash

abbrev pub ends_in_backslash : Bytes → Bool
ends_in_backslash text = is_backslash (slice_get text (length text - 1))

-- the bytes of a line that was read
abbrev pub text_bytes : LineText → Bytes
text_bytes (Whole text) = text.now
text_bytes (Joined text) = text.items

-- lines that were read, as lines of a text
abbrev pub shown : PhysicalLine → Line
shown l = record { number = l.number; text = l.text.now }

abbrev pub line_shown : LogicalLine → Line
line_shown l = record { number = l.number; text = text_bytes l.text }

-- a physical line is taken, or none is left
abbrev pub TakesLine : List Line → Option Line → List Line → Type 0
TakesLine old None new = (old ≡ []) × (new ≡ old)
TakesLine old (Some line) new = old ≡ line ∷ new

-- the first logical line is taken, or none is left
abbrev pub PassesLine : List Line → Option LogicalLine → List Line → Type 0
PassesLine old None new = (old ≡ []) × (new ≡ old)
PassesLine old (Some line) new = first_line (λ text. false) old ≡ Some (line_shown line, new)

-- whether a line is empty, or at least this much indented where the indentation is known
abbrev pub text_belongs : Option ℕ → Bytes → Bool
text_belongs None text = list_all is_blank text
text_belongs (Some least) text = list_all is_blank text || nat_le least (indented_from 0 text)

-- what is left after the lines that belong to a help text
abbrev pub after_belonging : Option ℕ → List Line → List Line
after_belonging least ls = drop (prefix_len (λ l. text_belongs least l.text) ls) ls

-- the first line is passed where it belongs to a help text
abbrev pub PassesBelonging : Option ℕ → List Line → Bool → List Line → Type 0
PassesBelonging least old false new = (after_belonging least old ≡ old) × (new ≡ old)
PassesBelonging least old true new = (after_belonging least old ≡ after_belonging least new) × (length new < length old)

-- the indentation of the first line, 0 where none is left
abbrev pub first_indentation : List Line → ℕ
first_indentation [] = 0
first_indentation (l ∷ ls) = indentation l

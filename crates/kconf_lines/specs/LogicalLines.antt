-- The logical lines of a text: a physical line that ends in a backslash is joined with the next one, without the
-- backslash, and a logical line has the number of its first physical line. Help texts are taken out. Rule: Linux
-- kconfig-language; that the backslash of a text's last line is dropped too is this project's.
use Rattle.std.specs.Prelude.{ℕ, ◌-◌, Bool, true, false, ◌==◌, ◌++◌, length, take, Option, None, Some, List, [], ◌∷◌, if◌then◌else◌}
use Rattle.ut_text.specs.Bytes.{Bytes, backslash}
use Rattle.ut_text.specs.Lines.{lines_of}
use Rattle.kconf_lines.specs.Lines.{Line, numbered}
use Rattle.kconf_lines.specs.HelpTexts.{after_help}
use Rattle.kconf_lines.specs.Cut.{cut}

-- whether a line ends in a backslash
abbrev pub is_continued : Bytes → Bool
is_continued [] = false
is_continued (b ∷ []) = b == backslash
is_continued (b ∷ c ∷ s) = is_continued (c ∷ s)

-- a line without the backslash that it ends in
abbrev pub front : Bytes → Bytes
front text = take (length text - 1) text

-- the text of the first logical line, and the lines after it
abbrev pub joined_by : Bool → Bytes → Bytes × List Line → List Line → Bytes × List Line
joined_by true text next ls = (front text ++ next.0, next.1)
joined_by false text next ls = (text, ls)

-- the first of these lines, joined with those that belong to it
abbrev pub joined_first : List Line → Bytes × List Line
joined_first [] = ([], [])
joined_first (l ∷ ls) = joined_by (is_continued l.text) l.text (joined_first ls) ls

module _ (begins_help : Bytes → Bool) where
  -- the first logical line, and the lines after it and its help text
  abbrev pub with_help : ℕ → Bytes × List Line → Line × List Line
  with_help number p = (record { number = number; text = p.0 }, if begins_help p.0 then after_help p.1 else p.1)

  -- the first logical line with its number; none where no line is left
  abbrev pub first_line : List Line → Option (Line × List Line)
  first_line [] = None
  first_line (l ∷ ls) = Some (with_help l.number (joined_first (l ∷ ls)))

  -- the logical lines among these lines, where a line can begin a help text
  abbrev pub logical_lines : List Line → List Line
  logical_lines ls = (cut first_line ls).0

  -- the logical lines of a text
  abbrev pub logical_lines_of : Bytes → List Line
  logical_lines_of bytes = logical_lines (numbered 1 (lines_of bytes))

-- Help texts, which are read by physical lines: empty lines belong to one, the first other line sets its
-- indentation, and it ends before the first line that is less indented. A first line without indentation is no
-- help text. Rule: Linux kconfig-language, "Menu attributes"; that a line of blanks is empty is this project's.
use Rattle.std.specs.Prelude.{ℕ, ◌+◌, ◌*◌, ◌/◌, Bool, ◌==◌, ◌||◌, nat_le, drop, List, [], ◌∷◌, if◌then◌else◌}
use Rattle.std.specs.List.{list_all, prefix_len}
use Rattle.ut_text.specs.Bytes.{Bytes, tab}
use Rattle.ut_text.specs.ByteClasses.{is_blank}
use Rattle.kconf_lines.specs.Lines.{Line}

-- the column after a blank: a tab goes to the next multiple of 8
abbrev pub column_after : ℕ → ℕ → ℕ
column_after column b = if b == tab then (column / 8 + 1) * 8 else column + 1

-- the column of the first byte that is no blank
abbrev pub indented_from : ℕ → Bytes → ℕ
indented_from column [] = column
indented_from column (b ∷ s) = if is_blank b then indented_from (column_after column b) s else column

-- the column at which a line begins
abbrev pub indentation : Line → ℕ
indentation l = indented_from 0 l.text

-- a line of blanks, or of nothing
abbrev pub is_empty_line : Line → Bool
is_empty_line l = list_all is_blank l.text

-- what is left after the lines that are empty or at least this much indented
abbrev pub after_indented : ℕ → List Line → List Line
after_indented least ls = drop (prefix_len (λ l. is_empty_line l || nat_le least (indentation l)) ls) ls

-- the first line that is not empty sets the indentation; without one there is no help text
abbrev pub after_first : List Line → List Line
after_first [] = []
after_first (l ∷ ls) = if indentation l == 0 then l ∷ ls else after_indented (indentation l) (l ∷ ls)

-- what is left after the help text that these lines begin with
abbrev pub after_help : List Line → List Line
after_help ls = after_first (drop (prefix_len is_empty_line ls) ls)

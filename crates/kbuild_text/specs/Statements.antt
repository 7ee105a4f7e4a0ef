-- What a line of a Kbuild text says: it assigns words to a variable, or it begins, turns or ends a conditional part.
-- Rule: GNU make, "The Two Flavors of Variables" for the signs, and "Syntax of Conditionals"; a line that is an assignment
-- is no conditional line, as make has it. That each line that is neither is without effect is this project's.
use Rattle.std.specs.Prelude.{ℕ, ◌+◌, ◌-◌, Bool, not, ◌==◌, ◌&&◌, ◌||◌, codes, length, take, drop, List, [], ◌∷◌, Option, None, Some, if◌then◌else◌}
use Rattle.std.specs.List.{list_any, prefix_len}
use Rattle.std.specs.Option.{option_map}
use Rattle.std.specs.Borrow.{Bor}
use Rattle.kbuild_text.specs.Marks.{are}
use Rattle.kbuild_text.specs.Words.{words_of, only}
use Rattle.kbuild_text.specs.declared.marks.Mark.{Mark}
use Rattle.kbuild_text.specs.declared.statements.Statement.{Statement}
use Rattle.kbuild_text.specs.declared.statements.Statement.TheVariants as code

-- a variable with its words; a conditional line; an `else` with the words after it; an `endif`; another line
pub data Says : Type 0 where
  Assigns : List Mark → List (List Mark) → Says
  Opens : Says
  Turns : List (List Mark) → Says
  Closes : Says
  Other : Says

-- `=` outside of macro calls; 61 is its byte
abbrev pub is_equals : Mark → Bool
is_equals mark = not mark.in_call && mark.byte == 61

abbrev pub is_before_equals : Mark → Bool
is_before_equals mark = not (is_equals mark)

-- the first byte of `:=`, `+=` and `?=`
abbrev pub leads_equals : Mark → Bool
leads_equals mark = not mark.in_call && (mark.byte == 58 || mark.byte == 43 || mark.byte == 63)

-- what stands before the sign, of what stands before the `=`
abbrev pub without_lead : List Mark → List Mark
without_lead [] = []
without_lead (m ∷ []) = if leads_equals m then [] else m ∷ []
without_lead (m ∷ n ∷ ms) = m ∷ without_lead (n ∷ ms)

-- what a line assigns: the one word before the first sign outside of macro calls, and the words after the sign
abbrev pub assignment_of : List Mark → Option (List Mark × List (List Mark))
assignment_of line =
    let end = prefix_len is_before_equals line in
    if end == length line then None
    else option_map (λ variable. (variable, words_of (drop (end + 1) line))) (only (words_of (without_lead (take end line))))

-- `ifeq`, `ifneq`, `ifdef` and `ifndef`
abbrev pub is_opener : List Mark → Bool
is_opener word = are word (codes "ifeq") || are word (codes "ifneq") || are word (codes "ifdef") || are word (codes "ifndef")

-- what the words of a line say that is no assignment
abbrev pub conditional_words : List (List Mark) → Says
conditional_words [] = Other
conditional_words (w ∷ ws) = if is_opener w then Opens else if are w (codes "else") then Turns ws else if are w (codes "endif") then Closes else Other

abbrev pub conditional_of : List Mark → Says
conditional_of line = conditional_words (words_of line)

-- an assignment, or else what the words say
abbrev pub assigned_or : Option (List Mark × List (List Mark)) → Says → Says
assigned_or None says = says
assigned_or (Some assigned) says = Assigns assigned.0 assigned.1

-- what a line says
abbrev pub statement_of : List Mark → Says
statement_of line = assigned_or (assignment_of line) (conditional_of line)

-- ---- what the reader's answers stand for

-- a variable, and the words of what stands after the sign
abbrev pub seen : Option (Bor (List Mark) × Bor (List Mark)) → Option (List Mark × List (List Mark))
seen found = option_map (λ f. (f.0.now, words_of f.1.now)) found

abbrev pub said : Statement → Says
said (code.Assigns variable values) = Assigns variable.now (words_of values.now)
said code.Opens = Opens
said (code.Turns rest) = Turns (words_of rest.now)
said code.Closes = Closes
said code.Other = Other

-- The logical lines of a Kbuild text. Rule: GNU make, "Splitting Long Lines" and "What Makefiles Contain": a line that ends
-- in a backslash goes on in the next one, and a `#` begins a comment. That backslash and line end are just one blank, and
-- that each `#` counts, also in a macro call, is this project's rule.
use Rattle.std.specs.Prelude.{◌≡◌, ℕ, ◌+◌, Bool, true, false, not, ◌==◌, ◌++◌, List, [], ◌∷◌, take, if◌then◌else◌}
use Rattle.std.specs.List.{prefix_len}
use Rattle.ut_text.specs.Bytes.{Bytes, space, backslash, number_sign}
use Rattle.ut_text.specs.Lines.{lines_of}

-- a logical line, and the number of its first physical line, counted from 1
pub record Line : Type 0 where
  pub number : ℕ
  pub text : Bytes

-- whether a physical line ends in a backslash
abbrev pub goes_on : Bytes → Bool
goes_on [] = false
goes_on (b ∷ []) = b == backslash
goes_on (b ∷ c ∷ s) = goes_on (c ∷ s)

-- what a physical line gives to its logical line: a backslash at its end is a blank
abbrev pub part_of : Bytes → Bytes
part_of [] = []
part_of (b ∷ []) = if b == backslash then space ∷ [] else b ∷ []
part_of (b ∷ c ∷ s) = b ∷ part_of (c ∷ s)

-- bytes in front of the first line
abbrev pub onto_line : ℕ → Bytes → List Line → List Line
onto_line number front [] = record { number = number; text = front } ∷ []
onto_line number front (line ∷ lines) = record { number = number; text = front ++ line.text } ∷ lines

-- physical lines joined, of which the first has this number
abbrev pub joined_lines : ℕ → List Bytes → List Line
joined_lines number [] = []
joined_lines number (l ∷ ls) =
    if goes_on l then onto_line number (part_of l) (joined_lines (number + 1) ls)
    else record { number = number; text = part_of l } ∷ joined_lines (number + 1) ls

-- the logical lines of a text
abbrev pub logical_lines : Bytes → List Line
logical_lines text = joined_lines 1 (lines_of text)

-- a line up to its comment
abbrev pub uncommented : Bytes → Bytes
uncommented line = take (prefix_len (λ b. not (b == number_sign)) line) line

-- ---- what the reader of lines promises

-- after these bytes the text goes on with the logical line up to here, of so many physical lines, and with the rest
pub record Begins (before : Bytes) (text line : Bytes) (count : ℕ) (rest : Bytes) : Type 0 where
  pub first : Bytes
  pub whole : line ≡ before ++ first
  pub lines : (number : ℕ) → joined_lines number (lines_of text) ≡ record { number = number; text = first } ∷ joined_lines (number + count) (lines_of rest)

-- so far: after these bytes the text begins with the physical lines of this part of a logical line, which may go on
pub record BeginsWith (before : Bytes) (text line : Bytes) (count : ℕ) (rest : Bytes) (more : Bool) : Type 0 where
  pub first : Bytes
  pub whole : line ≡ before ++ first
  pub lines : (number : ℕ) → joined_lines number (lines_of text)
      ≡ (if more then onto_line number first (joined_lines (number + count) (lines_of rest)) else record { number = number; text = first } ∷ joined_lines (number + count) (lines_of rest))

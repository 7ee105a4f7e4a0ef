-- The lines of a text that this project writes and reads: it is cut at newline bytes and at nothing else, so that, other
-- than in Kconfig, Kbuild and C texts, a carriage return is a byte of its line. Bytes after the last newline are a line
-- too. This project's rule.
use Rattle.std.specs.Prelude.{◌≢◌, ◌==◌, List, [], ◌∷◌, ◌++◌, if◌then◌else◌, All, codes}
use Rattle.ut_text.specs.Bytes.{Bytes, newline}
use Rattle.ut_text.specs.Lines.{onto_first}

-- the lines without their newlines
abbrev pub lines_of : Bytes → List Bytes
lines_of [] = []
lines_of (b ∷ text) = if b == newline then [] ∷ lines_of text else onto_first b (lines_of text)

-- the lines with their newlines; only the last one may lack it
abbrev pub whole_lines : Bytes → List Bytes
whole_lines [] = []
whole_lines (b ∷ text) =
    if b == newline then codes "\n" ∷ whole_lines text else onto_first b (whole_lines text)

-- each line with a newline after it
abbrev pub text_of : List Bytes → Bytes
text_of [] = []
text_of (line ∷ lines) = line ++ codes "\n" ++ text_of lines

-- no byte is a newline
abbrev pub HasNoNewline : Bytes → Type 0
HasNoNewline line = All (λ b. b ≢ newline) line

-- What the readers of lines promise each other.
-- This project's own; no contract of a public call rests on it.
use Rattle.std.specs.Prelude.{◌≡◌, ℕ, ◌<◌, length, ◌==◌, Option, None, Some, unwrap_or, List, [], ◌∷◌, if◌then◌else◌}
use Rattle.ut_text.specs.Bytes.{Bytes, newline}
use Rattle.cpp_read.specs.declared.uncommented.Found.{Found}
use Rattle.cpp_read.specs.declared.uncommented.Found.TheVariants.{End, Other, Sign}
use Rattle.cpp_read.specs.declared.cursor.PlacedByte.{PlacedByte}
use Rattle.cpp_read.specs.LogicalLines.{Marked, cut, marked, marked_lines}

-- the first line
abbrev pub line_of : List PlacedByte → List PlacedByte
line_of [] = []
line_of (c ∷ s) = if c.byte == newline then [] else c ∷ line_of s

-- what stands after it
abbrev pub after_line : List PlacedByte → List PlacedByte
after_line [] = []
after_line (c ∷ s) = if c.byte == newline then s else after_line s

-- the place after the newline that ends it
abbrev pub newline_end : List PlacedByte → Option ℕ
newline_end [] = None
newline_end (c ∷ s) = if c.byte == newline then Some c.end else newline_end s

-- the place after it, in a text that ends there
abbrev pub line_end : ℕ → List PlacedByte → ℕ
line_end end s = unwrap_or (newline_end s) end

-- the directives' lines of what is left of a text from one place to another
abbrev pub marked_from : ℕ → ℕ → List PlacedByte → List Marked
marked_from start end s = marked_lines (cut start end s)

-- what was found is a directive's line with this text, or none
abbrev pub found_lines : ℕ → ℕ → Found → Bytes → List ℕ → List Marked
found_lines start end End text ends = []
found_lines start end (Other to) text ends = []
found_lines start end (Sign n to) text ends = record { start = start; end = end; number = n; text = text; ends = ends } ∷ []

-- where the line ends that was found
abbrev pub found_end : Found → Option ℕ
found_end End = None
found_end (Other to) = to
found_end (Sign n to) = to

-- a line is passed, or there is none
abbrev pub Moves : Found → List PlacedByte → List PlacedByte → Type 0
Moves End old new = old ≡ []
Moves (Other to) old new = length new < length old
Moves (Sign n to) old new = length new < length old

-- The logical lines of a text: it is cut at the newlines that are left when lines are spliced and comments are taken
-- out, so that a logical line has one physical line or several. All bytes of the text belong to some line, and the last
-- line is the one that no newline ends; it may be empty. A line whose first token is a number sign is a directive's.
-- Rule: ISO C, "Translation phases" and "Preprocessing directives".
use Rattle.std.specs.Prelude.{ℕ, Bool, ◌==◌, ◌||◌, List, [], ◌∷◌, map, length, if◌then◌else◌}
use Rattle.std.specs.List.{flat_map}
use Rattle.ut_text.specs.Bytes.{Bytes, tab, newline, carriage_return, space}
use Rattle.cpp_read.specs.Characters.{number_sign, vertical_tab, form_feed}
use Rattle.cpp_read.specs.Comments.{uncommented}
use Rattle.cpp_read.specs.Splices.{spliced_bytes}
use Rattle.cpp_read.specs.declared.cursor.PlacedByte.{PlacedByte}
use Rattle.cpp_read.specs.declared.modes.Mode.TheVariants.{Code}

-- a logical line: its bytes are those from one place of the text to another, its newline with them; and what is left of
-- it after splices and comments, without the newline
pub record LogicalLine : Type 0 where
  pub start : ℕ
  pub end : ℕ
  pub left : List PlacedByte

-- a byte in front of the first line
abbrev pub onto_first : PlacedByte → List LogicalLine → List LogicalLine
onto_first c [] = []
onto_first c (l ∷ ls) = record { start = l.start; end = l.end; left = c ∷ l.left } ∷ ls

-- the lines of what is left of a text from one place to another
abbrev pub cut : ℕ → ℕ → List PlacedByte → List LogicalLine
cut start end [] = record { start = start; end = end; left = [] } ∷ []
cut start end (c ∷ s) = if c.byte == newline then record { start = start; end = c.end; left = [] } ∷ cut c.end end s else onto_first c (cut start end s)

-- the logical lines of a text
abbrev pub logical_lines : Bytes → List LogicalLine
logical_lines bytes = cut 0 (length bytes) (uncommented Code (spliced_bytes 0 1 bytes))

-- white space in a line: space, tab, vertical tab, form feed, carriage return
abbrev pub is_white : ℕ → Bool
is_white b = b == space || b == tab || b == vertical_tab || b == form_feed || b == carriage_return

-- a directive's line: where it begins and ends in the text, the number of its sign's physical line, the bytes after the
-- sign, and the place directly after each of these
pub record Marked : Type 0 where
  pub start : ℕ
  pub end : ℕ
  pub number : ℕ
  pub text : Bytes
  pub ends : List ℕ

-- bytes without their places
abbrev pub bytes_of : List PlacedByte → Bytes
bytes_of = map (λ c. c.byte)

-- the places after bytes
abbrev pub ends_of : List PlacedByte → List ℕ
ends_of = map (λ c. c.end)

-- a line that has these bytes left, if its first token is the sign
abbrev pub marked : ℕ → ℕ → List PlacedByte → List Marked
marked start end [] = []
marked start end (c ∷ s) =
    if is_white c.byte then marked start end s
    else if c.byte == number_sign then record { start = start; end = end; number = c.line; text = bytes_of s; ends = ends_of s } ∷ [] else []

-- the directives' lines among logical lines, in order
abbrev pub marked_lines : List LogicalLine → List Marked
marked_lines ls = flat_map (λ l. marked l.start l.end l.left) ls

-- The bytes of a text that are left when lines are spliced: each with its physical line and its place, without a
-- carriage return directly before a newline, and without a backslash and the newline after it.
-- Rule: ISO C, "Translation phases" 1 and 2; the carriage return is this project's.
use Rattle.std.specs.Prelude.{ℕ, ◌+◌, ◌==◌, ◌&&◌, List, [], ◌∷◌, if◌then◌else◌}
use Rattle.ut_text.specs.Bytes.{Bytes, newline, carriage_return}
use Rattle.cpp_read.specs.Characters.{backslash}
use Rattle.cpp_read.specs.declared.cursor.PlacedByte.{PlacedByte}

-- the line of the next byte
abbrev pub line_after : ℕ → ℕ → ℕ
line_after line byte = if byte == newline then line + 1 else line

-- each byte with the number of its physical line, and the place directly after it, where the first byte stands at this place
abbrev pub placed : ℕ → ℕ → Bytes → List PlacedByte
placed at line [] = []
placed at line (byte ∷ bytes) = record { byte = byte; line = line; end = at + 1 } ∷ placed (at + 1) (line_after line byte) bytes

-- a carriage return directly before a newline is dropped
abbrev pub returnless : List PlacedByte → List PlacedByte
returnless [] = []
returnless (a ∷ []) = a ∷ []
returnless (a ∷ b ∷ s) = if a.byte == carriage_return && b.byte == newline then returnless (b ∷ s) else a ∷ returnless (b ∷ s)

-- a backslash and the newline after it are dropped
abbrev pub spliced : List PlacedByte → List PlacedByte
spliced [] = []
spliced (a ∷ []) = a ∷ []
spliced (a ∷ b ∷ s) = if a.byte == backslash && b.byte == newline then spliced s else a ∷ spliced (b ∷ s)

-- the bytes that are left of a text whose first byte is at this place and on this line
abbrev pub spliced_bytes : ℕ → ℕ → Bytes → List PlacedByte
spliced_bytes at line bytes = spliced (returnless (placed at line bytes))

-- The lines of a text: it is cut at newline bytes, and a carriage return directly before a newline belongs to the line
-- end. What stands after the last newline is a line where it is not empty. These are physical lines, of Kconfig,
-- Kbuild and C alike. Rules: ISO C, "Translation phases", and Linux kconfig-language; what is done with a carriage
-- return is this project's.
use Rattle.std.specs.Prelude.{ℕ, Bool, false, ◌==◌, ◌&&◌, List, [], ◌∷◌, if◌then◌else◌}
use Rattle.ut_text.specs.Bytes.{Bytes, newline, carriage_return}

-- whether a text begins with a newline
abbrev pub begins_newline : Bytes → Bool
begins_newline [] = false
begins_newline (b ∷ s) = b == newline

-- a byte in front of the first line
abbrev pub onto_first : ℕ → List Bytes → List Bytes
onto_first b [] = (b ∷ []) ∷ []
onto_first b (l ∷ ls) = (b ∷ l) ∷ ls

-- the lines of a text, in order
abbrev pub lines_of : Bytes → List Bytes
lines_of [] = []
lines_of (b ∷ s) = if b == newline then [] ∷ lines_of s else if b == carriage_return && begins_newline s then lines_of s else onto_first b (lines_of s)

-- The first line of a text and what stands after it: what the readers of lines promise each other.
use Rattle.std.specs.Prelude.{ℕ, suc, Bool, false, ◌==◌, ◌&&◌, ◌||◌, drop, [], ◌∷◌, if◌then◌else◌}
use Rattle.ut_text.specs.Bytes.{Bytes, newline, carriage_return}
use Rattle.ut_text.specs.Lines.{begins_newline}

-- whether a text begins with a line end: a newline, or a carriage return and a newline
abbrev pub ends_line : Bytes → Bool
ends_line [] = false
ends_line (b ∷ s) = b == newline || (b == carriage_return && begins_newline s)

-- how many bytes stand before the first line end
abbrev pub line_len : Bytes → ℕ
line_len [] = 0
line_len (b ∷ s) = if ends_line (b ∷ s) then 0 else suc (line_len s)

-- the text after the line end that it begins with
abbrev pub after_end : Bytes → Bytes
after_end [] = []
after_end (b ∷ s) = if b == newline then s else if b == carriage_return && begins_newline s then drop 1 s else b ∷ s

-- how many bytes the line end takes that a text begins with
abbrev pub end_size : Bytes → ℕ
end_size [] = 0
end_size (b ∷ s) = if b == newline then 1 else if b == carriage_return && begins_newline s then 2 else 0

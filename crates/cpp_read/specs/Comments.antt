-- A text with one space for each comment. What is kept of a byte depends on the mode before it and on the next byte;
-- quoted text ends at its mark or at the line's end, and a comment left open runs to the text's end.
-- Rule: ISO C, "Comments" and "Translation phases" 3.
use Rattle.std.specs.Prelude.{ℕ, Bool, false, ◌==◌, ◌&&◌, ◌||◌, List, [], ◌∷◌, Option, None, Some, if◌then◌else◌}
use Rattle.ut_text.specs.Bytes.{newline, space}
use Rattle.cpp_read.specs.Characters.{quote, apostrophe, star, slash, backslash}
use Rattle.cpp_read.specs.declared.cursor.PlacedByte.{PlacedByte}
use Rattle.cpp_read.specs.declared.modes.Mode.{Mode}
use Rattle.cpp_read.specs.declared.modes.Mode.TheVariants.{Code, Line, Open, Block, Close, Str, StrEscape, Char, CharEscape}
use Rattle.cpp_read.specs.Cursors.{first}

-- whether that byte is next
abbrev pub is_next : ℕ → Option ℕ → Bool
is_next b None = false
is_next b (Some a) = a == b

-- `/` before `*` or `/`
abbrev pub opens_comment : ℕ → Option ℕ → Bool
opens_comment b ahead = b == slash && (is_next star ahead || is_next slash ahead)

-- what is kept of a byte: of a comment the opening `/`, as a space, and the newline that ends a line comment
abbrev pub kept_of : Mode → ℕ → Option ℕ → Option ℕ
kept_of Code b ahead = if opens_comment b ahead then Some space else Some b
kept_of Line b ahead = if b == newline then Some b else None
kept_of Open b ahead = None
kept_of Block b ahead = None
kept_of Close b ahead = None
kept_of Str b ahead = Some b
kept_of StrEscape b ahead = Some b
kept_of Char b ahead = Some b
kept_of CharEscape b ahead = Some b

-- the mode after a byte of code: a comment or quoted text may begin
abbrev pub code_after : ℕ → Option ℕ → Mode
code_after b ahead =
    if b == slash && is_next star ahead then Open
    else if b == slash && is_next slash ahead then Line
    else if b == quote then Str
    else if b == apostrophe then Char else Code

-- the mode after a byte; `/*` and `*/` have a mode before their second byte, a backslash has one for the next byte
abbrev pub mode_after : Mode → ℕ → Option ℕ → Mode
mode_after Code b ahead = code_after b ahead
mode_after Line b ahead = if b == newline then Code else Line
mode_after Open b ahead = Block
mode_after Block b ahead = if b == star && is_next slash ahead then Close else Block
mode_after Close b ahead = Code
mode_after Str b ahead = if b == backslash then StrEscape else if b == quote || b == newline then Code else Str
mode_after StrEscape b ahead = if b == newline then Code else Str
mode_after Char b ahead = if b == backslash then CharEscape else if b == apostrophe || b == newline then Code else Char
mode_after CharEscape b ahead = if b == newline then Code else Char

-- what is kept of a byte, in front of the rest
abbrev pub onto : Option ℕ → PlacedByte → List PlacedByte → List PlacedByte
onto None c s = s
onto (Some b) c s = record { byte = b; line = c.line; end = c.end } ∷ s

-- what is kept of a text from this mode on
abbrev pub uncommented : Mode → List PlacedByte → List PlacedByte
uncommented m [] = []
uncommented m (c ∷ s) = onto (kept_of m c.byte (first s)) c (uncommented (mode_after m c.byte (first s)) s)

-- Macro calls in a line: `$(` up to its `)`, or `${` up to its `}`, with the brackets of the call's own kind in pairs.
-- Rule: GNU make, "Basics of Variable References"; that a call without its end runs to the end of the line is this project's.
use Rattle.std.specs.Prelude.{ℕ, ◌+◌, ◌-◌, Bool, true, false, not, ◌==◌, ◌||◌, Option, None, Some, List, [], ◌∷◌, map, if◌then◌else◌}
use Rattle.std.specs.List.{list_any}
use Rattle.ut_text.specs.Bytes.{Bytes}
use Rattle.kbuild_text.specs.declared.marks.Bracket.{Bracket}
use Rattle.kbuild_text.specs.declared.marks.Bracket.TheVariants.{Round, Curly}
use Rattle.kbuild_text.specs.declared.marks.Place.{Place}
use Rattle.kbuild_text.specs.declared.marks.Place.TheVariants.{Outside, Dollar, Inside}
use Rattle.kbuild_text.specs.declared.marks.Mark.{Mark}

-- `(` and `{`
abbrev pub opening : Bracket → ℕ
opening Round = 40
opening Curly = 123

-- `)` and `}`
abbrev pub closing : Bracket → ℕ
closing Round = 41
closing Curly = 125

-- after a byte outside of macro calls; 36 is `$`
abbrev pub after_outside : ℕ → Place
after_outside b = if b == 36 then Dollar else Outside

-- after a byte that follows a `$`
abbrev pub after_dollar : ℕ → Place
after_dollar b = if b == 40 then Inside Round 0 else if b == 123 then Inside Curly 0 else after_outside b

-- after a byte of a call
abbrev pub after_inside : Bracket → ℕ → ℕ → Place
after_inside bracket depth b =
    if b == opening bracket then Inside bracket (depth + 1)
    else if not (b == closing bracket) then Inside bracket depth
    else if depth == 0 then Outside else Inside bracket (depth - 1)

-- where the byte after this one stands
abbrev pub after : Place → ℕ → Place
after Outside b = after_outside b
after Dollar b = after_dollar b
after (Inside bracket depth) b = after_inside bracket depth b

-- whether a byte at this place stands in a call
abbrev pub is_inside : Place → Bool
is_inside Outside = false
is_inside Dollar = false
is_inside (Inside bracket depth) = true

-- how many pairs are open in the call
abbrev pub depth_of : Place → ℕ
depth_of Outside = 0
depth_of Dollar = 0
depth_of (Inside bracket depth) = depth

-- the bytes of a line from such a place on: the brackets of a call stand in it
abbrev pub marks_from : Place → Bytes → List Mark
marks_from place [] = []
marks_from place (b ∷ s) = record { byte = b; in_call = is_inside place || is_inside (after place b) } ∷ marks_from (after place b) s

-- the bytes of a line, each with whether it stands in a macro call
abbrev pub marks_of : Bytes → List Mark
marks_of line = marks_from Outside line

-- whether a macro call stands in these bytes
abbrev pub has_call : List Mark → Bool
has_call marks = list_any (λ mark. mark.in_call) marks

-- the bytes without their marks
abbrev pub bytes_of : List Mark → Bytes
bytes_of marks = map (λ mark. mark.byte) marks

-- what stands after such bytes at the front
abbrev pub after_front : List Mark → Bytes → Option (List Mark)
after_front marks [] = Some marks
after_front [] (b ∷ bytes) = None
after_front (m ∷ marks) (b ∷ bytes) = if m.byte == b then after_front marks bytes else None

-- whether that is nothing
abbrev pub is_end : Option (List Mark) → Bool
is_end None = false
is_end (Some []) = true
is_end (Some (m ∷ marks)) = false

-- whether these are just such bytes
abbrev pub are : List Mark → Bytes → Bool
are marks bytes = is_end (after_front marks bytes)

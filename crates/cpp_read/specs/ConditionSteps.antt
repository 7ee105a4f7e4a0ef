-- What the readers of conditions promise each other.
-- This project's own; no contract of a public call rests on it.
use Rattle.std.specs.Prelude.{◌++◌, Bool, true, false, Result, Ok, List, [], ◌∷◌}
use Rattle.ut_text.specs.Bytes.{Bytes, space}
use Rattle.cpp_read.specs.declared.token.Token.{Token}
use Rattle.cpp_directives.specs.declared.condition.Cond.{Cond}
use Rattle.cpp_directives.specs.declared.bad.CppBad.{CppBad}
use Rattle.ut_text.specs.Results.{◌>>=◌}
use Rattle.cpp_read.specs.Operands.{piece_text}

-- the conditions of what is left, after these
abbrev pub conds_after : List Cond → Result (List Cond) CppBad → Result (List Cond) CppBad
conds_after front read = read >>= λ cs. Ok (front ++ cs)

-- the texts of what is left, with a space before the first unless it is the first of all
abbrev pub spaced : Bool → List Token → Bytes
spaced true ts = piece_text ts
spaced false [] = []
spaced false (t ∷ ts) = space ∷ piece_text (t ∷ ts)

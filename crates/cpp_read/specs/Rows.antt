-- Negations in a row, and parentheses round parentheses. This project's own; no contract of a public call rests on it.
use Rattle.std.specs.Prelude.{ℕ, zero, suc, Bool, ◌==◌, ◌&&◌, length, List, Result}
use Rattle.std.specs.List.{list_all}
use Rattle.cpp_directives.specs.declared.condition.Cond.{Cond}
use Rattle.cpp_directives.specs.declared.condition.Cond.TheVariants as cond
use Rattle.cpp_directives.specs.declared.bad.CppBad.{CppBad}
use Rattle.cpp_read.specs.declared.token.Token.{Token}
use Rattle.cpp_read.specs.Conditions.{negated}
use Rattle.cpp_read.specs.Depth.{is_balanced}
use Rattle.cpp_read.specs.Signs.{is_open, is_close}

-- a condition, negated so many times
abbrev pub nots : ℕ → Cond → Cond
nots zero c = c
nots (suc k) c = cond.Neg (nots k c)

-- what is read, negated so many times
abbrev pub negations : ℕ → Result Cond CppBad → Result Cond CppBad
negations zero read = read
negations (suc k) read = negated (negations k read)

-- so many opening parentheses, tokens whose own parentheses match, and as many closing ones
abbrev pub is_nest : List Token → List Token → List Token → Bool
is_nest front core back = length front == length back && (list_all is_open front && (list_all is_close back && is_balanced 0 core))

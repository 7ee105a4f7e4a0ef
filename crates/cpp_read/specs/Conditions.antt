-- The condition that a list of tokens stands for: the first rule that fits. `f` reads a shorter list.
-- Rule: ISO C, "Conditional inclusion"; the list of rules and the limits are this project's.
use Rattle.std.specs.Prelude.{◌≡◌, ℕ, ◌-◌, Bool, true, false, not, ◌&&◌, length, take, drop, Result, Ok, Err, List, [], ◌∷◌, if◌then◌else◌}
use Rattle.std.specs.List.{list_all}
use Rattle.cpp_read.specs.declared.token.Token.{Token}
use Rattle.cpp_read.specs.declared.token.Token.TheVariants.{Ident, Number, Quoted, Sign}
use Rattle.cpp_directives.specs.declared.condition.Cond.{Cond}
use Rattle.cpp_directives.specs.declared.condition.Cond.TheVariants as cond
use Rattle.cpp_read.specs.declared.number.Whole.{Whole}
use Rattle.cpp_read.specs.declared.number.Whole.TheVariants as number
use Rattle.cpp_read.specs.declared.depth.Joint.TheVariants as joint
use Rattle.cpp_directives.specs.declared.bad.CppBad.{CppBad}
use Rattle.cpp_directives.specs.declared.bad.CppBad.TheVariants.{Condition}
use Rattle.cpp_read.specs.Numbers.{whole}
use Rattle.cpp_read.specs.Depth.{parts, has, is_group, is_balanced}
use Rattle.cpp_read.specs.SignsOver.{outermost, signs_fit}
use Rattle.cpp_read.specs.Operands.{piece_text, is_negation, leaf_of, or_piece}
use Rattle.ut_text.specs.Results.{◌>>=◌}

-- a reader of lists
abbrev pub Reader : Type 0
Reader = List Token → Result Cond CppBad

-- the inside of a group
abbrev pub inside : List Token → List Token
inside ts = take (length ts - 2) (drop 1 ts)

-- the negation of what is read
abbrev pub negated : Result Cond CppBad → Result Cond CppBad
negated read = read >>= λ c. Ok (cond.Neg c)

-- the parts, read in order
abbrev pub each : Reader → List (List Token) → Result (List Cond) CppBad
each f [] = Ok []
each f (p ∷ ps) = f p >>= λ c. each f ps >>= λ cs. Ok (c ∷ cs)

-- a list without operators: `!` and a unit, a group, or a leaf
abbrev pub single : Reader → List Token → Result Cond CppBad
single f ts = if is_negation ts then negated (f (drop 1 ts)) else if is_group ts then f (inside ts) else Ok (or_piece ts (leaf_of ts))

-- the first rule that fits a list that is not empty: `?` or `,`; `||`; `&&`
abbrev pub ruled : Reader → List Token → Result Cond CppBad
ruled f ts =
    if has joint.Pick ts then Ok (cond.Piece (piece_text ts))
    else if has joint.Any ts then (each f (parts joint.Any ts) >>= λ cs. Ok (cond.AnyOf cs))
    else if has joint.All ts then (each f (parts joint.All ts) >>= λ cs. Ok (cond.AllOf cs)) else single f ts

-- whether there is no token
abbrev pub is_none : List Token → Bool
is_none [] = true
is_none (t ∷ ts) = false

-- an empty list is refused
abbrev pub by_rules : ℕ → Reader → List Token → Result Cond CppBad
by_rules line f ts = if is_none ts then Err (Condition line) else ruled f ts

-- a reader that reads every list by the rules
abbrev pub Reads : ℕ → Reader → Type 0
Reads line f = (ts : List Token) → f ts ≡ by_rules line f ts

-- a number of more than 128 bits
abbrev pub is_wide_whole : Whole → Bool
is_wide_whole number.NotWhole = false
is_wide_whole number.Zero = false
is_wide_whole number.Nonzero = false
is_wide_whole number.Wide = true

-- a token that is such a number
abbrev pub is_wide : Token → Bool
is_wide (Number x) = is_wide_whole (whole x)
is_wide (Ident x) = false
is_wide (Quoted x) = false
is_wide (Sign x) = false

-- parentheses match, no token has more than 200 signs over it, no whole number needs more than 128 bits
abbrev pub is_readable : List Token → Bool
is_readable ts = is_balanced 0 ts && (signs_fit outermost ts && list_all (λ t. not (is_wide t)) ts)

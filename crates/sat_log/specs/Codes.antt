-- Literals as numbers: twice the variable, and one more where it is positive. No public contract cites this module.
use Rattle.std.specs.Prelude.{◌≡◌, ℕ, ◌+◌, ◌-◌, ◌*◌, ◌/◌, ◌%◌, ◌==◌, Bool, true, false, if◌then◌else◌, List, slice_index_or, map}
use Rattle.ut_logic.specs.declared.literals.Lit.{Lit}
use Rattle.ut_logic.specs.Clauses.{literal}
use Rattle.sat_log.specs.declared.marks.Mark.{Mark}
use Rattle.sat_log.specs.declared.values.Value.{Value}
use Rattle.sat_log.specs.declared.values.Value.TheVariants.{Unset, True, False}
use Rattle.sat_log.specs.Moves.{IsSet, IsFalse, IsUnset}

-- the number of a literal
abbrev pub code_of : Lit → ℕ
code_of l = if l.positive then l.var * 2 + 1 else l.var * 2

-- the literal with a number
abbrev pub literal_of : ℕ → Lit
literal_of code = literal (code / 2) (code % 2 == 1)

-- the value of a literal of this sign where its variable has this value
abbrev pub value_under : Bool → Value → Value
value_under sign Unset = Unset
value_under sign True = if sign then True else False
value_under sign False = if sign then False else True

-- the value of the literal with a number
abbrev pub truth_of : List Value → ℕ → Value
truth_of values code = value_under (code % 2 == 1) (slice_index_or values (code / 2 - 1) Unset)

-- what the value says of the literal
abbrev pub TellsLiteral : List Mark → Lit → Value → Type 0
TellsLiteral marks l Unset = IsUnset marks l
TellsLiteral marks l True = IsSet marks l
TellsLiteral marks l False = IsFalse marks l

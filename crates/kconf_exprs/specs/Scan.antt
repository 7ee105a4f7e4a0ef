-- Where an expression ends, found from the left: what is wanted at a place, and how many parentheses are open.
use Rattle.std.specs.Prelude.{ℕ, ◌+◌, ◌-◌, Bool, false, ◌==◌, drop, Option, None, Some, List, [], ◌∷◌, if◌then◌else◌}
use Rattle.std.specs.Option.{option_map}
use Rattle.kconf_words.specs.declared.line_words.LineWord.{LineWord}
use Rattle.kconf_exprs.specs.declared.roles.Role.{Role}
use Rattle.kconf_exprs.specs.declared.roles.Role.TheVariants as role
use Rattle.kconf_exprs.specs.declared.lengths.Wants.{Wants}
use Rattle.kconf_exprs.specs.declared.lengths.Wants.TheVariants as wants
use Rattle.kconf_exprs.specs.declared.lengths.ScanStep.{ScanStep}
use Rattle.kconf_exprs.specs.declared.lengths.ScanStep.TheVariants.{Goes, Ends, Fails}
use Rattle.kconf_exprs.specs.Grammar.{role_of}

-- what a word does after a whole operand
abbrev pub after_operand : ℕ → Role → ScanStep
after_operand depth role.And = Goes wants.Operand depth
after_operand depth role.Or = Goes wants.Operand depth
after_operand depth role.Close = if depth == 0 then Ends else Goes wants.Joint (depth - 1)
after_operand depth r = if depth == 0 then Ends else Fails

-- what a word does where an operand is wanted
abbrev pub at_operand : ℕ → Role → ScanStep
at_operand depth role.Operand = Goes wants.Compare depth
at_operand depth role.Not = Goes wants.Operand depth
at_operand depth role.Open = Goes wants.Operand (depth + 1)
at_operand depth r = Fails

-- what a word does
abbrev pub step : Wants → ℕ → Role → ScanStep
step wants.Operand depth r = at_operand depth r
step wants.Side depth role.Operand = Goes wants.Joint depth
step wants.Side depth r = Fails
step wants.Compare depth (role.Compares sign) = Goes wants.Side depth
step wants.Compare depth r = after_operand depth r
step wants.Joint depth r = after_operand depth r

-- whether the words may end
abbrev pub may_end : Wants → ℕ → Bool
may_end wants.Operand depth = false
may_end wants.Side depth = false
may_end w depth = depth == 0

-- the words after the expression, or none stands there
abbrev pub scan : Wants → ℕ → List LineWord → Option (List LineWord)
scan w depth [] = if may_end w depth then Some [] else None
scan w depth (word ∷ ws) = elim (step w depth (role_of word)) [ Goes v d ↦ scan v d ws | Ends ↦ Some (word ∷ ws) | Fails ↦ None ]

-- the words after so many
abbrev pub drops : List LineWord → Option ℕ → Option (List LineWord)
drops ws n = option_map (λ k. drop k ws) n

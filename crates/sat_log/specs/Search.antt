-- What one turn of the search does. No public contract cites this module.
use Rattle.std.specs.Prelude.{◌≡◌, ℕ, ◌+◌, ◌-◌, ◌*◌, ◌<◌, ◌≤◌, List, [], length}
use Rattle.ut_logic.specs.declared.literals.Lit.{Lit}
use Rattle.log_check.specs.Derivations.{IsRight}
use Rattle.sat_log.specs.declared.solving.Turn.{Turn}
use Rattle.sat_log.specs.declared.solving.Turn.TheVariants.{Moved, Found, Refuted, Spent}
use Rattle.sat_log.specs.Moves.{State, Moves}
use Rattle.sat_log.specs.Runs.{IsAtModel, IsAtRefutation}

-- what is left of the budget, and then how many literals are set
abbrev pub work_left : ℕ → ℕ → State → ℕ
work_left n budget s = (budget - s.steps) * (n + 2) + length s.marks

-- the trail moves within the budget, or stays and says why
abbrev pub IsTurn : ℕ → List (List Lit) → ℕ → State → State → Turn → Type 0
IsTurn n clauses budget s t Moved = Moves n clauses s t × (t.steps ≤ budget) × (work_left n budget t < work_left n budget s)
IsTurn n clauses budget s t Found = (t ≡ s) × IsAtModel n clauses s
IsTurn n clauses budget s t (Refuted line) = (t ≡ s) × IsAtRefutation clauses s × IsRight clauses s.lines line × (line.result ≡ [])
IsTurn n clauses budget s t Spent = (t ≡ s) × (s.steps ≡ budget) × (¬ IsAtModel n clauses s) × (¬ IsAtRefutation clauses s)

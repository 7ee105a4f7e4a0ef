-- A clause form as it grows: the number of its variables and its clauses so far. This project's rule.
use Rattle.std.specs.Prelude.{ℕ, List}
use Rattle.ut_logic.specs.declared.literals.Lit.{Lit}

-- variables count from 1, and a new one is the next
pub record Form : Type 0 where
  pub vars : ℕ
  pub clauses : List (List Lit)

-- Runs of a trail over a list of clauses of n variables, their ends, and when a list is spent.
-- This project's rule.
use Rattle.std.specs.Prelude.{◌≡◌, ℕ, zero, suc, ◌<◌, ◌≤◌, false, List, [], All, Contains}
use Rattle.ut_logic.specs.declared.literals.Lit.{Lit}
use Rattle.sat_log.specs.declared.marks.Mark.{Mark}
use Rattle.sat_log.specs.Moves.{State, IsSetVar, IsFalseClause, known, Moves, Jumps}

-- no derived line, no set literal, no step
abbrev pub start : State
start = record { lines = []; marks = []; steps = 0 }

-- some run of k moves from the start ends in the state
abbrev pub RunsTo : ℕ → List (List Lit) → ℕ → State → Type 0
RunsTo n clauses zero s = s ≡ start
RunsTo n clauses (suc k) s = (before : State) × RunsTo n clauses k before × Moves n clauses before s

-- some run ends in the state
abbrev pub IsReached : ℕ → List (List Lit) → State → Type 0
IsReached n clauses s = (k : ℕ) × RunsTo n clauses k s

-- k backjumps, one after another, lead from s to t
abbrev pub JumpsTo : List (List Lit) → ℕ → State → State → Type 0
JumpsTo clauses zero s t = t ≡ s
JumpsTo clauses (suc k) s t = (mid : State) × JumpsTo clauses k s mid × Jumps clauses mid t

-- each variable is set, and no known clause is false
pub record IsAtModel (n : ℕ) (clauses : List (List Lit)) (s : State) : Type 0 where
  pub all_set : (x : ℕ) → 0 < x → x ≤ n → IsSetVar s.marks x
  pub none_false : (c : List Lit) → Contains (known clauses s) c → ¬ IsFalseClause s.marks c

-- a known clause is false, and no literal is decided
pub record IsAtRefutation (clauses : List (List Lit)) (s : State) : Type 0 where
  pub clause : List Lit
  pub among : Contains (known clauses s) clause
  pub is_false : IsFalseClause s.marks clause
  pub none_decided : All (λ (m : Mark). m.decided ≡ false) s.marks

-- some run takes exactly k steps and is then at neither end
pub record IsSpent (n : ℕ) (clauses : List (List Lit)) (k : ℕ) : Type 0 where
  pub state : State
  pub reached : IsReached n clauses state
  pub steps : state.steps ≡ k
  pub no_model : ¬ IsAtModel n clauses state
  pub no_refutation : ¬ IsAtRefutation clauses state

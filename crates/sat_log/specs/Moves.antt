-- A trail over a list of clauses, and its moves: decide, propagate and backjump. The words are those of
-- a search that learns clauses (unit, conflict, decision); which moves are allowed is this project's rule.
use Rattle.std.specs.Prelude.{◌≡◌, ◌≢◌, ◌⊎◌, ℕ, ◌+◌, ◌<◌, ◌≤◌, Bool, true, false, List, [], ◌∷◌, ◌++◌, map, Contains}
use Rattle.ut_logic.specs.declared.literals.Lit.{Lit}
use Rattle.ut_logic.specs.Clauses.{literal, negated}
use Rattle.log_check.specs.declared.derivations.DerivationLine.{DerivationLine}
use Rattle.log_check.specs.Derivations.{IsRight, results}
use Rattle.sat_log.specs.declared.marks.Mark.{Mark}

-- the set literals, without their marks
abbrev pub set_literals : List Mark → List Lit
set_literals marks = map (λ (m : Mark). m.lit) marks

-- the literal is set, and so true
abbrev pub IsSet : List Mark → Lit → Type 0
IsSet marks l = Contains (set_literals marks) l

-- the literal's negation is set
abbrev pub IsFalse : List Mark → Lit → Type 0
IsFalse marks l = IsSet marks (negated l)

-- neither the literal nor its negation is set
abbrev pub IsUnset : List Mark → Lit → Type 0
IsUnset marks l = (¬ IsSet marks l) × (¬ IsFalse marks l)

-- a literal of the variable is set
abbrev pub IsSetVar : List Mark → ℕ → Type 0
IsSetVar marks x = (sign : Bool) × IsSet marks (literal x sign)

-- each literal of the clause is false
abbrev pub IsFalseClause : List Mark → List Lit → Type 0
IsFalseClause marks c = (l : Lit) → Contains c l → IsFalse marks l

-- the clause has this one unset literal and else false ones
pub record Forces (marks : List Mark) (c : List Lit) (l : Lit) : Type 0 where
  pub inside : Contains c l
  pub unset : IsUnset marks l
  pub others : (k : Lit) → Contains c k → k ≢ l → IsFalse marks k

-- the clause has one unset literal and else false ones
abbrev pub IsForcing : List Mark → List Lit → Type 0
IsForcing marks c = (l : Lit) × Forces marks c l

-- of the variables from 1 to n the first that isn't set
pub record IsFirstUnset (n : ℕ) (marks : List Mark) (x : ℕ) : Type 0 where
  pub low : 0 < x
  pub high : x ≤ n
  pub unset : ¬ IsSetVar marks x
  pub first : (y : ℕ) → 0 < y → y < x → IsSetVar marks y

-- what a trail has beside its clauses: derived lines, set literals with marks, and steps
pub record State : Type 0 where
  pub lines : List DerivationLine
  pub marks : List Mark
  pub steps : ℕ

-- the known clauses: those of the list, and the results of the derived lines
abbrev pub known : List (List Lit) → State → List (List Lit)
known clauses s = clauses ++ results s.lines

-- no known clause is false, and none has one unset literal and else false ones
pub record IsQuiet (known : List (List Lit)) (marks : List Mark) : Type 0 where
  pub none_false : (c : List Lit) → Contains known c → ¬ IsFalseClause marks c
  pub none_forcing : (c : List Lit) → Contains known c → ¬ IsForcing marks c

-- the literal is set in one step, marked decided or forced
abbrev pub with_mark : State → Lit → Bool → State
with_mark s l decided =
    record { lines = s.lines; marks = s.marks ++ (record { lit = l; decided = decided }) ∷ []; steps = s.steps + 1 }

-- the first unset variable is set to false, where no known clause is false or forcing
pub record Decides (n : ℕ) (clauses : List (List Lit)) (s t : State) : Type 0 where
  pub quiet : IsQuiet (known clauses s) s.marks
  pub var : ℕ
  pub first : IsFirstUnset n s.marks var
  pub after : t ≡ with_mark s (literal var false) true

-- the one unset literal of a known clause whose other literals are false is set
pub record Propagates (clauses : List (List Lit)) (s t : State) : Type 0 where
  pub clause : List Lit
  pub among : Contains (known clauses s) clause
  pub lit : Lit
  pub forced : Forces s.marks clause lit
  pub after : t ≡ with_mark s lit false

-- a line derived from known clauses is added, and the trail is cut just before a decided literal, so that
-- the line then has one unset literal and else false ones
pub record Jumps (clauses : List (List Lit)) (s t : State) : Type 0 where
  pub line : DerivationLine
  pub derived : IsRight clauses s.lines line
  pub kept : List Mark
  pub cut : Mark
  pub gone : List Mark
  pub split : s.marks ≡ kept ++ cut ∷ gone
  pub decided : cut.decided ≡ true
  pub forcing : IsForcing kept line.result
  pub after : t ≡ record { lines = s.lines ++ line ∷ []; marks = kept; steps = s.steps }

-- decide and propagate are steps
abbrev pub Steps : ℕ → List (List Lit) → State → State → Type 0
Steps n clauses s t = Decides n clauses s t ⊎ Propagates clauses s t

-- a backjump is a move and no step
abbrev pub Moves : ℕ → List (List Lit) → State → State → Type 0
Moves n clauses s t = Steps n clauses s t ⊎ Jumps clauses s t

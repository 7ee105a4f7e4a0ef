-- What a contract sees of a trail, and what its calls do beyond the moves. This project's rule.
use Rattle.std.specs.Prelude.{◌≡◌, ℕ, ◌<◌, true, false, List, length, take, slice_index_or}
use Rattle.ut_logic.specs.declared.literals.Lit.{Lit}
use Rattle.log_check.specs.Derivations.{IsNumbered}
use Rattle.sat_log.specs.declared.marks.Mark.{Mark}
use Rattle.sat_log.specs.Moves.{State, known, Forces, IsForcing, with_mark}

-- a trail: its clause form, by variables and clauses, and its state
pub record TrailView : Type 0 where
  pub vars : ℕ
  pub clauses : List (List Lit)
  pub state : State

-- the one unset literal of the known clause with this number is set, marked forced
abbrev pub Sets : List (List Lit) → ℕ → State → State → Type 0
Sets clauses number s t =
    (c : List Lit) × (l : Lit) × IsNumbered (known clauses s) number c × Forces s.marks c l × (t ≡ with_mark s l false)

-- the trail can be cut at this place: a decided literal stands there, and before it the clause has one unset
-- literal and else false ones
abbrev pub IsCut : List Mark → List Lit → ℕ → Type 0
IsCut marks c k =
    (k < length marks) × ((d : Mark) → (slice_index_or marks k d).decided ≡ true) × IsForcing (take k marks) c

-- the first such place
abbrev pub IsFirstPlace : List Mark → List Lit → ℕ → Type 0
IsFirstPlace marks c k = IsCut marks c k × ((j : ℕ) → j < k → ¬ IsCut marks c j)

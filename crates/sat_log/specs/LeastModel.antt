-- The least model of a list of clauses of n variables, by the order of variables with false before true:
-- models in the usual sense, the order is this project's rule.
use Rattle.std.specs.Prelude.{◌≡◌, ◌⊎◌, ℕ, ◌<◌, ◌≤◌, ◌==◌, Bool, true, false, if◌then◌else◌, List, [], ◌∷◌}
use Rattle.ut_logic.specs.declared.literals.Lit.{Lit}
use Rattle.ut_logic.specs.Clauses.{IsModel}
use Rattle.sat_log.specs.declared.marks.Mark.{Mark}
use Rattle.sat_log.specs.Moves.{IsSet}

-- v is false and w is true at some variable, and they agree on all lower ones
abbrev pub IsBefore : ℕ → (ℕ → Bool) → (ℕ → Bool) → Type 0
IsBefore n v w = (x : ℕ) × (0 < x) × (x ≤ n) × (v x ≡ false) × (w x ≡ true) × ((y : ℕ) → 0 < y → y < x → v y ≡ w y)

-- v and w agree on all variables
abbrev pub IsSame : ℕ → (ℕ → Bool) → (ℕ → Bool) → Type 0
IsSame n v w = (x : ℕ) → 0 < x → x ≤ n → v x ≡ w x

-- v is a model, and each model agrees with it or comes after it
pub record IsLeastModel (n : ℕ) (clauses : List (List Lit)) (v : ℕ → Bool) : Type 0 where
  pub model : IsModel v clauses
  pub least : (w : ℕ → Bool) → IsModel w clauses → IsSame n v w ⊎ IsBefore n v w

-- v gives the variable of each set literal its sign
abbrev pub IsHeldBy : List Mark → (ℕ → Bool) → Type 0
IsHeldBy marks v = (l : Lit) → IsSet marks l → v l.var ≡ l.positive

-- the value that the set literals give a variable; false where they give none
abbrev pub value_in : List Mark → ℕ → Bool
value_in [] x = false
value_in (m ∷ ms) x = if m.lit.var == x then m.lit.positive else value_in ms x

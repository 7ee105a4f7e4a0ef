-- Resolvents of two clauses: the resolution rule of propositional logic. That a resolvent with both
-- signs of a variable counts as none is this project's rule.
use Rattle.std.specs.Prelude.{◌≢◌, ◌⊎◌, ℕ, Bool, not, List, Contains}
use Rattle.ut_logic.specs.declared.literals.Lit.{Lit}
use Rattle.ut_logic.specs.Clauses.{literal, IsOrdered}

-- the variable stands in both clauses, with opposite signs
abbrev pub IsOppositeIn : List Lit → List Lit → ℕ → Type 0
IsOppositeIn a b x = (sign : Bool) × Contains a (literal x sign) × Contains b (literal x (not sign))

-- r holds, in order, the literals of a and of b, but the pivot's in a and its negation in b
pub record IsResolvent (a b : List Lit) (pivot : ℕ) (r : List Lit) : Type 0 where
  pub sign : Bool
  pub in_left : Contains a (literal pivot sign)
  pub in_right : Contains b (literal pivot (not sign))
  pub ordered : IsOrdered r
  pub sound : (l : Lit) → Contains r l →
      (Contains a l × (l ≢ literal pivot sign)) ⊎ (Contains b l × (l ≢ literal pivot (not sign)))
  pub left : (l : Lit) → Contains a l → l ≢ literal pivot sign → Contains r l
  pub right : (l : Lit) → Contains b l → l ≢ literal pivot (not sign) → Contains r l

-- the pivot isn't opposite in the clauses, or another variable is
abbrev pub HasNoResolvent : List Lit → List Lit → ℕ → Type 0
HasNoResolvent a b pivot = (¬ IsOppositeIn a b pivot) ⊎ ((x : ℕ) × (x ≢ pivot) × IsOppositeIn a b x)

-- Clauses in order: of a clause each literal is kept once, in order of variables, and a clause with both
-- signs of a variable, which is always true, is left out. This project's rule.
use Rattle.std.specs.Prelude.{◌≡◌, ◌⊎◌, Bool, true, false, not, ◌&&◌, ◌==◌, List, [], ◌∷◌, ◌++◌, filter}
use Rattle.std.specs.List.{list_any, AllZip}
use mathlib.Core.Bool.{beq}
use Rattle.ut_logic.specs.declared.literals.Lit.{Lit}
use Rattle.ut_logic.specs.Clauses.{negated, IsOrdered}

-- whether two literals are one
abbrev pub is_lit : Lit → Lit → Bool
is_lit a b = (a.var == b.var) && beq a.positive b.positive

-- whether the list has the literal
abbrev pub has_lit : List Lit → Lit → Bool
has_lit ls l = list_any (is_lit l) ls

-- whether the list has a literal and its negation
abbrev pub has_both_signs : List Lit → Bool
has_both_signs ls = list_any (λ l. has_lit ls (negated l)) ls

-- the same literals, in order
pub record IsTidy (ls c : List Lit) : Type 0 where
  pub ordered : IsOrdered c
  pub same : (l : Lit) → has_lit c l ≡ has_lit ls l

-- the clauses that are kept, each in order
abbrev pub AreTidy : List (List Lit) → List (List Lit) → Type 0
AreTidy written cs = AllZip IsTidy (filter (λ ls. not (has_both_signs ls)) written) cs

-- the clauses with that of the literals at their end, unless it has both signs of a variable
abbrev pub AddsTidy : List Lit → List (List Lit) → List (List Lit) → Type 0
AddsTidy ls old new = ((has_both_signs ls ≡ true) × (new ≡ old)) ⊎ ((c : List Lit) × (has_both_signs ls ≡ false) × IsTidy ls c × (new ≡ old ++ c ∷ []))

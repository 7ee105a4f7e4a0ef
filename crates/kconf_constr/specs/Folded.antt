-- Folded formulas: Yes and No stand alone, a list has two members or more, and no negation is negated. This project's rule.
use Rattle.std.specs.Prelude.{◌≢◌, Bool, true, false, ◌&&◌, List, [], ◌∷◌, All, if◌then◌else◌}
use Rattle.ut_logic.specs.declared.formula.Formula.{Formula}
use Rattle.ut_logic.specs.declared.formula.Formula.TheOpen.{Formula-F}
use Rattle.ut_logic.specs.declared.formula.Formula.TheFolds.{fold-Formula}
use Rattle.ut_logic.specs.declared.facts.Fact.{Fact}

-- what a formula is: Yes or No; an item or a list; a negation; or one that isn't folded
pub data Look : Type 0 where
  Constant : Look
  Plain : Look
  Negated : Look
  Broken : Look

-- whether it may stand in a list
abbrev pub is_part : Look → Bool
is_part Constant = false
is_part Plain = true
is_part Negated = true
is_part Broken = false

-- whether each of them may
abbrev pub are_parts : List Look → Bool
are_parts [] = true
are_parts (l ∷ ls) = is_part l && are_parts ls

-- of a list of two members or more, each of which may stand in it
abbrev pub look_list : List Look → Look
look_list [] = Broken
look_list (l ∷ []) = Broken
look_list (l ∷ m ∷ ls) = if are_parts (l ∷ m ∷ ls) then Plain else Broken

-- of a negation
abbrev pub look_neg : Look → Look
look_neg Constant = Broken
look_neg Plain = Negated
look_neg Negated = Broken
look_neg Broken = Broken

-- of one layer of a formula, given that of each inner one
abbrev pub look_step : Formula-F Look → Look
look_step Formula-F.Yes = Constant
look_step Formula-F.No = Constant
look_step (Formula-F.Is item) = Plain
look_step (Formula-F.Neg l) = look_neg l
look_step (Formula-F.AllOf ls) = look_list ls
look_step (Formula-F.AnyOf ls) = look_list ls

-- of a formula
abbrev pub look : Formula → Look
look = fold-Formula Look look_step

-- the formula is folded
abbrev pub IsFolded : Formula → Type 0
IsFolded f = look f ≢ Broken

-- a fact's formulas are
abbrev pub HasFolded : Fact → Type 0
HasFolded fact = All IsFolded fact.holds

-- How many lists of marks are still to come after those of a trail: the number that bounds its steps.
-- This project's rule.
use Rattle.std.specs.Prelude.{ℕ, zero, suc, Bool, true, false, List, [], ◌∷◌, ◌++◌, map, count_by}
use Rattle.sat_log.specs.declared.marks.Mark.{Mark}

-- what a list of marks is here: which of them are decided
abbrev pub kinds : List Mark → List Bool
kinds marks = map (λ (m : Mark). m.decided) marks

-- this kind alone, and in front of each list
abbrev pub beginning : Bool → List (List Bool) → List (List Bool)
beginning kind lists = (kind ∷ []) ∷ map (λ list. kind ∷ list) lists

-- every list of one to n kinds
abbrev pub kind_lists : ℕ → List (List Bool)
kind_lists zero = []
kind_lists (suc n) = beginning true (kind_lists n) ++ beginning false (kind_lists n)

-- whether the second list comes after the first: decided before forced, a list before its extensions
abbrev pub comes_after : List Bool → List Bool → Bool
comes_after xs [] = false
comes_after [] (y ∷ ys) = true
comes_after (true ∷ xs) (true ∷ ys) = comes_after xs ys
comes_after (true ∷ xs) (false ∷ ys) = true
comes_after (false ∷ xs) (true ∷ ys) = false
comes_after (false ∷ xs) (false ∷ ys) = comes_after xs ys

-- how many lists of one to n marks come after these
abbrev pub lists_to_come : ℕ → List Mark → ℕ
lists_to_come n marks = count_by (comes_after (kinds marks)) (kind_lists n)

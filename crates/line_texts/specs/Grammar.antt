-- Texts of lines, by cases on lines: in which state a line may stand, with the lines after it, and to
-- which state it leads; in which state a text may end, and what it then says. A line is its bytes, or
-- what its bytes stand for. This project's rule.
use Rattle.std.specs.Prelude.{ℕ, zero, suc, ◌-◌, ◌<◌, List, [], ◌∷◌}

-- the lines, read from this state on, say a
abbrev pub Says : {X S A : Type 0} → (S → X → List X → S → Type 0) → (S → A → Type 0) → S → List X → A → Type 0
Says Takes Ends s [] a = Ends s a
Says {X} {S} Takes Ends s (x ∷ xs) a = (next : S) × Takes s x xs next × Says Takes Ends next xs a

-- the first n lines may stand where they stand, and the line after them may not; or there is no line
-- after them, and the text may not end there
abbrev pub IsFirstOutside : {X S A : Type 0} → (S → X → List X → S → Type 0) → (S → A → Type 0) → S → List X → ℕ → Type 0
IsFirstOutside {X} {S} {A} Takes Ends s [] zero = (a : A) → ¬ Ends s a
IsFirstOutside Takes Ends s [] (suc n) = ⊥
IsFirstOutside {X} {S} Takes Ends s (x ∷ xs) zero = (next : S) → ¬ Takes s x xs next
IsFirstOutside {X} {S} Takes Ends s (x ∷ xs) (suc n) =
    (next : S) × Takes s x xs next × IsFirstOutside Takes Ends next xs n

-- the line with this number, counted from 1, is the first one outside; where all lines may stand and the text may not
-- end, it is the one after the last
abbrev pub IsOutsideLine : {X S A : Type 0} → (S → X → List X → S → Type 0) → (S → A → Type 0) → S → List X → ℕ → Type 0
IsOutsideLine Takes Ends s lines number = (0 < number) × IsFirstOutside Takes Ends s lines (number - 1)

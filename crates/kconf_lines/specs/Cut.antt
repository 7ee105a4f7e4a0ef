-- Pieces that are cut off the front of a list one after another: the logical lines of a text, the words of a line, the
-- parts of a word. A piece takes one element or more, so that a list has no more pieces than elements. This project's
-- words.
use Rattle.std.specs.Prelude.{ℕ, zero, suc, length, Option, None, Some, List, [], ◌∷◌}

-- a piece in front of others
abbrev pub onto : {A R : Type 0} → A → List A × R → List A × R
onto a p = (a ∷ p.0, p.1)

-- where a piece stands at the front it is cut off, and so are those of what it leaves
abbrev pub go_on : {X A : Type 0} → (List X → List A × List X) → List X → Option (A × List X) → List A × List X
go_on pieces xs None = ([], xs)
go_on pieces xs (Some p) = onto p.0 (pieces p.1)

-- at most n pieces
abbrev pub at_most : {X A : Type 0} → (List X → Option (A × List X)) → ℕ → List X → List A × List X
at_most first zero xs = ([], xs)
at_most first (suc n) xs = go_on (at_most first n) xs (first xs)

-- all pieces, and what is left where none stands at the front
abbrev pub cut : {X A : Type 0} → (List X → Option (A × List X)) → List X → List A × List X
cut first xs = at_most first (length xs) xs

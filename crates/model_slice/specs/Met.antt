-- Which nodes a search has met, by what it has noted: a symbol for which there is room by the place that is noted
-- for it, any other node by a set. This project's rule.
use Rattle.std.specs.Prelude.{◌≡◌, ℕ, zero, suc, Bool, false, Option, None, Some, List, [], ◌∷◌, length, nat_lt, slice_index_or, if◌then◌else◌}
use Rattle.ut_logic.specs.declared.node.Node.{Node}
use Rattle.ut_logic.specs.declared.node.Node.TheVariants.{Sym, Choice, Block, State}
use Rattle.ut_logic.specs.Node.{node_eq}
use Rattle.model_slice.specs.Found.{has}

-- the number of a symbol for which there is room
abbrev pub number_in : List ℕ → Node → Option ℕ
number_in room (Sym a) = if nat_lt a (length room) then Some a else None
number_in room (Choice a) = None
number_in room (Block file block) = None
number_in room (State file name turn) = None

-- whether the node stands at the place
abbrev pub is_at : List Node → ℕ → Node → Bool
is_at [] k n = false
is_at (m ∷ ms) zero n = node_eq m n
is_at (m ∷ ms) (suc k) n = is_at ms k n

-- whether a node is met, where this is its number
abbrev pub seen_at : List Node → List ℕ → List Node → Node → Option ℕ → Bool
seen_at nodes room others n (Some a) = is_at nodes (slice_index_or room a 0) n
seen_at nodes room others n None = has others n

-- what is noted says of each node whether it is among the nodes
abbrev pub AreNoted : List Node → List ℕ → List Node → Type 0
AreNoted nodes room others = (n : Node) → seen_at nodes room others n (number_in room n) ≡ has nodes n

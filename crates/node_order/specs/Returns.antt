-- The least of the shortest walks from a node back to itself. No public contract cites this module.
use Rattle.std.specs.Prelude.{◌≡◌, ℕ, ◌≤◌, ◌<◌, List, ◌∷◌, length, min, slice_index_or, Option, None, Some, Contains}
use Rattle.node_order.specs.Graph.{IsAtMost}
use Rattle.node_order.specs.Walks.{WalksTo}

-- the least number with the property, and none where no number has it
abbrev pub IsLeastOf : (ℕ → Type 0) → Option ℕ → Type 0
IsLeastOf P None = (x : ℕ) → ¬ P x
IsLeastOf P (Some x) = P x × ((y : ℕ) → P y → x ≤ y)

-- the lesser of two, or the one that is given
abbrev pub lesser_of : Option ℕ → Option ℕ → Option ℕ
lesser_of None b = b
lesser_of (Some x) None = Some x
lesser_of (Some x) (Some y) = Some (min x y)

-- one of the nodes has this distance
abbrev pub IsAway : List ℕ → List (Option ℕ) → ℕ → Type 0
IsAway nodes found steps = (node : ℕ) × Contains nodes node × (slice_index_or found node None ≡ Some steps)

-- the node is one of those and has this distance
abbrev pub IsAt : List ℕ → List (Option ℕ) → ℕ → ℕ → Type 0
IsAt nodes found steps node = Contains nodes node × (slice_index_or found node None ≡ Some steps)

-- of the walks from a to b with this number of steps, the least; a itself is left out
pub record IsLeastWalk (g : List (List ℕ)) (a steps : ℕ) (nodes : List ℕ) (b : ℕ) : Type 0 where
  pub count : length nodes ≡ steps
  pub walk : WalksTo g a nodes b
  pub least : (other : List ℕ) → WalksTo g a other b → length other ≡ steps → IsAtMost nodes other

-- of the walks from a back to a, with one step or more, the least of the shortest; the first a is left out
pub record IsLeastReturn (g : List (List ℕ)) (a : ℕ) (nodes : List ℕ) : Type 0 where
  pub some : 0 < length nodes
  pub walk : WalksTo g a nodes a
  pub shortest : (other : List ℕ) → 0 < length other → WalksTo g a other a → length nodes ≤ length other
  pub least : (other : List ℕ) → WalksTo g a other a → length other ≡ length nodes → IsAtMost nodes other

-- the list is a, followed by such a walk
abbrev pub Returns : List (List ℕ) → ℕ → List ℕ → Type 0
Returns g a list = (nodes : List ℕ) × (list ≡ a ∷ nodes) × IsLeastReturn g a nodes

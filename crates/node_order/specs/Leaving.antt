-- The search that comes to each node once and leaves it after all that it refers to: what it still has to do. No public
-- contract cites this module.
use Rattle.std.specs.Prelude.{◌≡◌, ℕ, ◌+◌, ◌<◌, List, length, All}
use Rattle.node_order.specs.declared.leaving.Turn.{Turn}
use Rattle.node_order.specs.declared.leaving.Turn.TheVariants.{Comes, Leaves}
use Rattle.node_order.specs.declared.leaving.Leaving.{Leaving}
use Rattle.node_order.specs.Searching.{new_work}

-- the node of a turn
abbrev pub node_in : Turn → ℕ
node_in (Comes a) = a
node_in (Leaves a) = a

-- all numbers are those of nodes of the graph
pub record IsLeaving (g : List (List ℕ)) (s : Leaving) : Type 0 where
  pub count : length s.marks.items ≡ length g
  pub turns : All (λ t. node_in t < length g) s.turns.items
  pub left : All (λ a. a < length g) s.left.items

-- the number of turns that are left
abbrev pub turns_left : List (List ℕ) → Leaving → ℕ
turns_left g s = new_work s.marks.items g + length s.turns.items

-- a turn was taken, and no more are left than before it was
pub record TakesTurn (g : List (List ℕ)) (old new : Leaving) : Type 0 where
  pub leaving : IsLeaving g new
  pub fewer : turns_left g new < turns_left g old + 1

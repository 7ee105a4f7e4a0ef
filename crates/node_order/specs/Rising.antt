-- Numbers of a graph's nodes that never fall along a reference: a node from which they rise lies on no cycle. No public
-- contract cites this module.
use Rattle.std.specs.Prelude.{ℕ, ◌≤◌, ◌<◌, List, length, slice_index_or, Option, None, Some, All}
use Rattle.node_order.specs.Graph.{refers_of}

-- a number, or 0 for none
abbrev pub number_of : Option ℕ → ℕ
number_of None = 0
number_of (Some k) = k

-- the number of a node
abbrev pub number_at : List (Option ℕ) → ℕ → ℕ
number_at numbers a = number_of (slice_index_or numbers a None)

-- each node that the list has is numbered at least so
abbrev pub Reach : List (Option ℕ) → ℕ → List ℕ → Type 0
Reach numbers n nodes = All (λ b. n ≤ number_at numbers b) nodes

-- each is numbered higher
abbrev pub Pass : List (Option ℕ) → ℕ → List ℕ → Type 0
Pass numbers n nodes = All (λ b. n < number_at numbers b) nodes

-- what the first nodes, so many, refer to is numbered at least as they are
abbrev pub FirstNeverFall : List (List ℕ) → List (Option ℕ) → ℕ → Type 0
FirstNeverFall g numbers count = (a : ℕ) → a < count → Reach numbers (number_at numbers a) (refers_of g a)

-- that holds for each node
abbrev pub NeverFall : List (List ℕ) → List (Option ℕ) → Type 0
NeverFall g numbers = FirstNeverFall g numbers (length g)

-- what the node refers to is numbered higher than it is
abbrev pub RisesFrom : List (List ℕ) → List (Option ℕ) → ℕ → Type 0
RisesFrom g numbers a = Pass numbers (number_at numbers a) (refers_of g a)

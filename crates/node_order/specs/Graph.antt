-- Graphs of numbered nodes, each with the list of the nodes that it refers to: walks, cycles, and orders in
-- which each node stands after all that it refers to. The usual definitions; which cycle is the first one is
-- this project's rule.
use Rattle.std.specs.Prelude.{◌≡◌, ◌⊎◌, ℕ, ◌-◌, ◌^◌, ◌≤◌, ◌<◌, List, [], ◌∷◌, length, take, slice_index, slice_index_or, All, Contains, EachIndex, ◌↔◌}

-- the nodes that a refers to
abbrev pub refers_of : List (List ℕ) → ℕ → List ℕ
refers_of g a = slice_index_or g a []

abbrev pub Refers : List (List ℕ) → ℕ → ℕ → Type 0
Refers g a b = Contains (refers_of g a) b

-- every number is below the number of nodes, which fits 32 bits
pub record IsGraph (g : List (List ℕ)) : Type 0 where
  pub small : length g < 2 ^ 32
  pub within : (a b : ℕ) → Refers g a b → b < length g

-- the same nodes, with each reference reversed
pub record IsReverse (g back : List (List ℕ)) : Type 0 where
  pub count : length back ≡ length g
  pub turned : (a b : ℕ) → Refers back a b ↔ Refers g b a

-- a refers to the first node of the list, if it has one
abbrev pub RefersToFirst : List (List ℕ) → ℕ → List ℕ → Type 0
RefersToFirst g a [] = Unit {0}
RefersToFirst g a (b ∷ nodes) = Refers g a b

-- each node of the list refers to the next
abbrev pub IsWalk : List (List ℕ) → List ℕ → Type 0
IsWalk g [] = Unit {0}
IsWalk g (a ∷ nodes) = RefersToFirst g a nodes × IsWalk g nodes

-- a walk from a node back to itself, with one step or more
pub record IsCycle (g : List (List ℕ)) (nodes : List ℕ) : Type 0 where
  pub some : 1 < length nodes
  pub walk : IsWalk g nodes
  pub back : slice_index nodes (length nodes - 1) ≡ slice_index nodes 0

-- the first list is at most the second, compared number by number from the front
abbrev pub IsAtMost : List ℕ → List ℕ → Type 0
IsAtMost [] ys = Unit {0}
IsAtMost (x ∷ xs) [] = ⊥
IsAtMost (x ∷ xs) (y ∷ ys) = (x < y) ⊎ ((x ≡ y) × IsAtMost xs ys)

-- a cycle through the least node that lies on one; of these cycles a shortest, and of the shortest the least
pub record IsFirstCycle (g : List (List ℕ)) (nodes : List ℕ) : Type 0 where
  pub cycle : IsCycle g nodes
  pub first : (other : List ℕ) → IsCycle g other → slice_index nodes 0 ≤ slice_index other 0
  pub shortest : (other : List ℕ) → IsCycle g other → slice_index other 0 ≡ slice_index nodes 0
      → length nodes ≤ length other
  pub least : (other : List ℕ) → IsCycle g other → slice_index other 0 ≡ slice_index nodes 0
      → length other ≡ length nodes → IsAtMost nodes other

-- each node stands in the list once, and after all that it refers to
pub record IsInOrder (g : List (List ℕ)) (order : List ℕ) : Type 0 where
  pub once : EachIndex order (λ k. ¬ Contains (take k order) (slice_index order k))
  pub after : EachIndex order (λ k. All (Contains (take k order)) (refers_of g (slice_index order k)))

-- such a list with all nodes of the graph and no others
pub record IsOrder (g : List (List ℕ)) (order : List ℕ) : Type 0 where
  pub all : (a : ℕ) → a < length g → Contains order a
  pub only : All (λ a. a < length g) order
  pub in_order : IsInOrder g order

abbrev pub HasOrder : List (List ℕ) → Type 0
HasOrder g = (order : List ℕ) × IsOrder g order

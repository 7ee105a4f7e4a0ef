-- Walks with both ends, and distances. No public contract cites this module.
use Rattle.std.specs.Prelude.{◌≡◌, ℕ, ◌≤◌, ◌<◌, List, [], ◌∷◌, length, slice_index_or, Option, None, Some}
use Rattle.node_order.specs.Graph.{Refers, IsCycle}

-- from a through the nodes to b, each refers to the next
abbrev pub WalksTo : List (List ℕ) → ℕ → List ℕ → ℕ → Type 0
WalksTo g a [] b = a ≡ b
WalksTo g a (c ∷ nodes) b = Refers g a c × WalksTo g c nodes b

-- a walk of n steps leads from a to b
abbrev pub IsLed : List (List ℕ) → ℕ → ℕ → ℕ → Type 0
IsLed g n a b = (nodes : List ℕ) × (length nodes ≡ n) × WalksTo g a nodes b

-- some nodes lie on a cycle
abbrev pub HasCycle : List (List ℕ) → Type 0
HasCycle g = (nodes : List ℕ) × IsCycle g nodes

-- a walk leads from a back to a
abbrev pub IsOnCycle : List (List ℕ) → ℕ → Type 0
IsOnCycle g a = (nodes : List ℕ) × (0 < length nodes) × WalksTo g a nodes a

-- no walk leads from a back to a
abbrev pub IsOffCycles : List (List ℕ) → ℕ → Type 0
IsOffCycles g a = (nodes : List ℕ) → 0 < length nodes → ¬ WalksTo g a nodes a

-- no node below this one lies on a cycle
pub record NoneBelow (g : List (List ℕ)) (node : ℕ) : Type 0 where
  pub none : (a : ℕ) → a < node → IsOffCycles g a

-- the least node that lies on a cycle
pub record IsFirstOnCycle (g : List (List ℕ)) (node : ℕ) : Type 0 where
  pub within : node < length g
  pub lies : IsOnCycle g node
  pub first : NoneBelow g node

-- the distance that is found for a is at most n
abbrev pub IsWithin : List (Option ℕ) → ℕ → ℕ → Type 0
IsWithin found a n = (d : ℕ) × (slice_index_or found a None ≡ Some d) × (d ≤ n)

-- for each node the least number of steps from the start to it, and none where no walk leads to it
pub record AreDistances (g : List (List ℕ)) (start : ℕ) (found : List (Option ℕ)) : Type 0 where
  pub count : length found ≡ length g
  pub led : (a d : ℕ) → slice_index_or found a None ≡ Some d → IsLed g d start a
  pub least : (a n : ℕ) → IsLed g n start a → IsWithin found a n

-- for each node the least number of steps from it to the target, and none where no walk leads there
pub record AreDistancesTo (g : List (List ℕ)) (target : ℕ) (found : List (Option ℕ)) : Type 0 where
  pub count : length found ≡ length g
  pub led : (a d : ℕ) → slice_index_or found a None ≡ Some d → IsLed g d a target
  pub least : (a n : ℕ) → IsLed g n a target → IsWithin found a n

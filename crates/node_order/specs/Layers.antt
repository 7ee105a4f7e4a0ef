-- How distances are found, one layer of nodes after another. No public contract cites this module.
use Rattle.std.specs.Prelude.{◌≡◌, ◌⊎◌, ◌↔◌, ℕ, ◌+◌, ◌≤◌, ◌<◌, List, [], ◌∷◌, length, slice_index_or, Option, None, Some, Contains}
use Rattle.node_order.specs.Graph.{Refers}
use Rattle.node_order.specs.Walks.{IsLed, IsWithin}

-- the number of nodes without a distance
abbrev pub unknown_count : List (Option ℕ) → ℕ
unknown_count [] = 0
unknown_count (None ∷ found) = 1 + unknown_count found
unknown_count (Some d ∷ found) = unknown_count found

-- those of the nodes that have no distance get this one, and are listed after the earlier ones
pub record AddsNew (old new : List (Option ℕ)) (before after nodes : List ℕ) (steps : ℕ) : Type 0 where
  pub count : length new ≡ length old
  pub kept : (a d : ℕ) → slice_index_or old a None ≡ Some d → slice_index_or new a None ≡ Some d
  pub given : (a : ℕ) → Contains nodes a → (d : ℕ) × (slice_index_or new a None ≡ Some d)
  pub only : (a d : ℕ) → slice_index_or new a None ≡ Some d
      → (slice_index_or old a None ≡ Some d) ⊎ ((slice_index_or old a None ≡ None) × (d ≡ steps) × Contains nodes a)
  pub listed : (a : ℕ) → Contains after a
      ↔ (Contains before a ⊎ ((slice_index_or old a None ≡ None) × (slice_index_or new a None ≡ Some steps)))
  pub work : unknown_count new + length after ≡ unknown_count old + length before

-- all distances are right, the layer is the nodes with the greatest one, and what a node with a lesser one
-- refers to has a distance
pub record IsLayer (g : List (List ℕ)) (start : ℕ) (found : List (Option ℕ)) (layer : List ℕ) (steps : ℕ) : Type 0 where
  pub count : length found ≡ length g
  pub begins : slice_index_or found start None ≡ Some 0
  pub led : (a d : ℕ) → slice_index_or found a None ≡ Some d → IsLed g d start a
  pub bound : (a d : ℕ) → slice_index_or found a None ≡ Some d → d ≤ steps
  pub near : (a b d : ℕ) → slice_index_or found a None ≡ Some d → d < steps → Refers g a b → IsWithin found b (d + 1)
  pub listed : (a : ℕ) → (slice_index_or found a None ≡ Some steps) ↔ Contains layer a

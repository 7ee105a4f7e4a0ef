-- How references are added while a graph is reversed. No public contract cites this module.
use Rattle.std.specs.Prelude.{◌≡◌, ◌⊎◌, ◌↔◌, ℕ, List, length, Contains}
use Rattle.node_order.specs.Graph.{Refers}

-- each of the nodes now refers to that one too
pub record AddsEach (old new : List (List ℕ)) (node : ℕ) (nodes : List ℕ) : Type 0 where
  pub count : length new ≡ length old
  pub added : (a b : ℕ) → Refers new a b ↔ (Refers old a b ⊎ (Contains nodes a × (b ≡ node)))

-- The least closed list over nodes of any type: it holds some roots and all that its nodes name, and every such
-- list holds all of it. The usual least fixed point.
use Rattle.std.specs.Prelude.{List, All, Contains}

-- each name that a listed node has is listed
abbrev pub IsClosed : {A : Type 0} → (A → List A) → List A → Type 0
IsClosed names_of nodes = All (λ node. All (Contains nodes) (names_of node)) nodes

-- the nodes are the least list that holds the roots and is closed
pub record IsLeastClosed {A : Type 0} (names_of : A → List A) (roots nodes : List A) : Type 0 where
  pub rooted : All (Contains nodes) roots
  pub closed : IsClosed names_of nodes
  pub least : (other : List A) → All (Contains other) roots → IsClosed names_of other → All (Contains other) nodes

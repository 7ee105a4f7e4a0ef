-- What the facts of nodes name. That a question looks at the nodes that are named, one after another from its
-- roots, and at no others is this project's rule.
use Rattle.std.specs.Prelude.{◌≡◌, Option, None, Some, List, [], ◌∷◌, map, All, Contains, if◌then◌else◌}
use Rattle.ut_logic.specs.declared.node.Node.{Node}
use Rattle.ut_logic.specs.declared.facts.Fact.{Fact}
use Rattle.ut_logic.specs.Node.{node_eq}

-- the nodes that have a fact
abbrev pub nodes_of : List Fact → List Node
nodes_of facts = map (λ f. f.node) facts

-- the fact of n: the first, if there are several
abbrev pub first_of : List Fact → Node → Option Fact
first_of [] n = None
first_of (f ∷ fs) n = if node_eq f.node n then Some f else first_of fs n

-- what the fact of n names: that of the first, if there are several
abbrev pub names_of : List Fact → Node → List Node
names_of [] n = []
names_of (f ∷ fs) n = if node_eq f.node n then f.names else names_of fs n

-- what a fact names, if there is one
abbrev pub names_at : Option Fact → List Node
names_at None = []
names_at (Some f) = f.names

-- each root, and each node that a fact names, has a fact
pub record AreKnown (facts : List Fact) (roots : List Node) : Type 0 where
  pub rooted : All (Contains (nodes_of facts)) roots
  pub named : (node : Node) → All (Contains (nodes_of facts)) (names_of facts node)

-- at each of the nodes both have the same fact, or neither has one
abbrev pub HaveSameFacts : List Fact → List Fact → List Node → Type 0
HaveSameFacts facts others nodes = (n : Node) → Contains nodes n → first_of facts n ≡ first_of others n

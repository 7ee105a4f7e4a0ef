-- Where the fact of a node stands in a list of facts, and nodes in the order in which they are met.
-- This project's rule.
use Rattle.std.specs.Prelude.{ℕ, Bool, ◌+◌, Option, None, Some, is_some, List, [], ◌∷◌, ◌++◌, if◌then◌else◌}
use Rattle.std.specs.List.{list_any}
use Rattle.ut_logic.specs.declared.node.Node.{Node}
use Rattle.ut_logic.specs.declared.facts.Fact.{Fact}
use Rattle.ut_logic.specs.Node.{node_eq}
use Rattle.model_slice.specs.Named.{first_of}

-- the place of the first fact of n, where the list begins at place k
abbrev pub place_from : ℕ → List Fact → Node → Option ℕ
place_from k [] n = None
place_from k (f ∷ fs) n = if node_eq f.node n then Some k else place_from (k + 1) fs n

-- whether n has a fact
abbrev pub has_fact : List Fact → Node → Bool
has_fact facts n = is_some (first_of facts n)

-- whether the list has the node
abbrev pub has : List Node → Node → Bool
has nodes n = list_any (node_eq n) nodes

-- the nodes, with n at the end if it is new
abbrev pub with_one : List Node → Node → List Node
with_one nodes n = if has nodes n then nodes else nodes ++ n ∷ []

-- the nodes, with the new ones of more at the end
abbrev pub added : List Node → List Node → List Node
added nodes [] = nodes
added nodes (n ∷ ns) = added (with_one nodes n) ns

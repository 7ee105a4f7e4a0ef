-- A graph's field and its meaning. No public contract cites this module.
use Rattle.std.specs.Prelude.{ℕ, List, map}
use Rattle.node_order.specs.declared.graph.Graph.TheInside.{Inside}

abbrev pub view_of : Inside → List (List ℕ)
view_of g = map (λ list. list.items) g.lists.items

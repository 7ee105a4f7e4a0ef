-- The turns are to nodes of the graph.
use Rattle.std.proofs.Common.{◌<◌, length}
use Rattle.std.specs.Prelude.{All}
use Rattle.node_order.specs.Leaving.{node_in}
use Rattle.node_order.proofs.leaving.Leaving.new.Given as goal

abbrev pub invariant-loop-node : goal.invariant-loop-node
invariant-loop-node l = All (λ t. node_in t < length l.graph) l.turns.items

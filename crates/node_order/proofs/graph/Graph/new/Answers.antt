use Rattle.std.proofs.Common.{arith, sym, subst}
use Rattle.node_order.specs.Graph.{IsGraph}
use Rattle.node_order.proofs.GraphLaws.{graph_none}
use Rattle.node_order.proofs.graph.Graph.new.Goals as goal

pub invariant_of-result : goal.invariant_of-result
invariant_of-result c = subst IsGraph (sym c.loop-i.invariant) (graph_none c.loop-i.i (omega arith))

-- The references of the nodes before this one are turned round.
use Rattle.node_order.proofs.GraphLaws.{TurnsBelow}
use Rattle.node_order.proofs.reversed.reversed.Given as goal

abbrev pub invariant-loop-node : goal.invariant-loop-node
invariant-loop-node l = TurnsBelow l.graph l.back l.node

-- No node before this one lies on a cycle.
use Rattle.node_order.specs.Walks.{NoneBelow}
use Rattle.node_order.proofs.first_on_cycle.first_on_cycle.Given as goal

abbrev pub invariant-loop-node : goal.invariant-loop-node
invariant-loop-node l = NoneBelow l.graph l.node

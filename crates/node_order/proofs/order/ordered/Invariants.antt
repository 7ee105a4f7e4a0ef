-- The nodes before this one, and all that they lead to, are in the order.
use Rattle.node_order.proofs.StepLaws.{OrdersBelow}
use Rattle.node_order.proofs.order.ordered.Given as goal

abbrev pub invariant-loop-root : goal.invariant-loop-root
invariant-loop-root l = OrdersBelow l.graph l.root l.search

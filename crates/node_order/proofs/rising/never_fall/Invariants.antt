-- From the earlier nodes the numbers never fall.
use Rattle.node_order.specs.Rising.{FirstNeverFall}
use Rattle.node_order.proofs.rising.never_fall.Given as goal

abbrev pub invariant-loop-node : goal.invariant-loop-node
invariant-loop-node l = FirstNeverFall l.graph l.numbers l.node

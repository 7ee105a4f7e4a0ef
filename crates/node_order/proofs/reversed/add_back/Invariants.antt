-- Those before this one refer to the node.
use Rattle.std.proofs.Common.{take}
use Rattle.node_order.specs.Turning.{AddsEach}
use Rattle.node_order.proofs.reversed.add_back.Given as goal

abbrev pub invariant-loop-from : goal.invariant-loop-from
invariant-loop-from l = AddsEach l.initial.back l.back l.node (take l.from-index l.nodes)

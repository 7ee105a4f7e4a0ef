-- The earlier ones have this number at least.
use Rattle.std.proofs.Common.{take}
use Rattle.node_order.specs.Rising.{Reach}
use Rattle.node_order.proofs.rising.reach.Given as goal

abbrev pub invariant-loop-node : goal.invariant-loop-node
invariant-loop-node l = Reach l.numbers l.number (take l.node-index l.nodes)

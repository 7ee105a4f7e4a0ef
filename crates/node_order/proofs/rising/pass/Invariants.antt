-- The earlier ones have higher numbers.
use Rattle.std.proofs.Common.{take}
use Rattle.node_order.specs.Rising.{Pass}
use Rattle.node_order.proofs.rising.pass.Given as goal

abbrev pub invariant-loop-node : goal.invariant-loop-node
invariant-loop-node l = Pass l.numbers l.number (take l.node-index l.nodes)

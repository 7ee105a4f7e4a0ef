-- The least of those before this one.
use Rattle.std.proofs.Common.{take}
use Rattle.node_order.specs.Returns.{IsAway, IsLeastOf}
use Rattle.node_order.proofs.nearest.nearest.Given as goal

abbrev pub invariant-loop-node : goal.invariant-loop-node
invariant-loop-node l = IsLeastOf (IsAway (take l.node-index l.nodes) l.found) l.least

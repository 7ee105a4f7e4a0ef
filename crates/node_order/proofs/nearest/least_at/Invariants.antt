-- The least of those before this one.
use Rattle.std.proofs.Common.{take}
use Rattle.node_order.specs.Returns.{IsAt, IsLeastOf}
use Rattle.node_order.proofs.nearest.least_at.Given as goal

abbrev pub invariant-loop-node : goal.invariant-loop-node
invariant-loop-node l = IsLeastOf (IsAt (take l.node-index l.nodes) l.found l.steps) l.least

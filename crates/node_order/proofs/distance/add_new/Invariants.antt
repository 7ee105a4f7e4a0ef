-- Those before this one are looked at.
use Rattle.std.proofs.Common.{take}
use Rattle.node_order.specs.Layers.{AddsNew}
use Rattle.node_order.proofs.distance.add_new.Given as goal

abbrev pub invariant-loop-node : goal.invariant-loop-node
invariant-loop-node l = AddsNew l.initial.found.items l.found.items l.initial.next.items l.next.items (take l.node-index l.nodes) l.steps

-- What those before this one refer to is looked at.
use Rattle.std.proofs.Common.{[], take}
use Rattle.std.specs.List.{flat_map}
use Rattle.node_order.specs.Graph.{refers_of}
use Rattle.node_order.specs.Layers.{AddsNew}
use Rattle.node_order.proofs.distance.next_layer.Given as goal

abbrev pub invariant-loop-node : goal.invariant-loop-node
invariant-loop-node l = AddsNew l.initial.found.items l.found.items [] l.next.items (flat_map (refers_of l.graph) (take l.node-index l.layer)) l.steps

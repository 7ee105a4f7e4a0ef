-- The layers so far are right, and each took a node at least.
use Rattle.std.proofs.Common.{◌+◌, ◌≤◌, length}
use Rattle.node_order.specs.Layers.{IsLayer, unknown_count}
use Rattle.node_order.proofs.distance.distances.Given as goal

abbrev pub invariant-loop-alloc : goal.invariant-loop-alloc
invariant-loop-alloc l = record {
  is_layer : IsLayer l.graph l.start l.found.items l.layer.items l.steps;
  few : l.steps + unknown_count l.found.items + length l.layer.items ≤ length l.graph;
}

abbrev pub decreases-loop-alloc : goal.decreases-loop-alloc
decreases-loop-alloc l = unknown_count l.found.items + length l.layer.items

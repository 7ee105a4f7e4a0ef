-- The layer has nodes of the graph.
use Rattle.std.proofs.Common.{◌≡◌, ◌<◌, ◌+◌, length}
use Rattle.std.specs.Prelude.{All}
use Rattle.node_order.specs.Layers.{unknown_count}
use Rattle.node_order.proofs.parts.number_part.Given as goal

abbrev pub invariant-loop-alloc : goal.invariant-loop-alloc
invariant-loop-alloc l = record {
  count : length l.numbers.items ≡ length l.back;
  layer : All (λ a. a < length l.back) l.layer.items;
}

abbrev pub decreases-loop-alloc : goal.decreases-loop-alloc
decreases-loop-alloc l = unknown_count l.numbers.items + length l.layer.items

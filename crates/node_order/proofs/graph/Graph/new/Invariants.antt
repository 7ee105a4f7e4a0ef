-- One empty list for each node so far.
use Rattle.std.proofs.Common.{◌≡◌, [], map, replicate}
use Rattle.node_order.proofs.graph.Graph.new.Given as goal

abbrev pub invariant-loop-i : goal.invariant-loop-i
invariant-loop-i l = map (λ v. v.items) l.lists.items ≡ replicate l.i []

-- One missing distance for each node so far.
use Rattle.std.proofs.Common.{◌≡◌, None, replicate}
use Rattle.node_order.proofs.distance.all_unknown.Given as goal

abbrev pub invariant-loop-i : goal.invariant-loop-i
invariant-loop-i l = l.found.items ≡ replicate l.i None

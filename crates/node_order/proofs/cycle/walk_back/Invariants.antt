-- The walk so far is completed by any least walk of the steps that are left.
use Rattle.std.proofs.Common.{◌≡◌, get_or, None, Some}
use Rattle.node_order.proofs.ReturnLaws.{Completes}
use Rattle.node_order.proofs.cycle.walk_back.Given as goal

abbrev pub invariant-loop-left : goal.invariant-loop-left
invariant-loop-left l = record {
  away : get_or l.found l.at None ≡ Some l.left;
  completes : Completes l.graph l.node l.steps l.at l.left l.nodes.items;
}

abbrev pub decreases-loop-left : goal.decreases-loop-left
decreases-loop-left l = l.left

-- One mark for each node so far.
use Rattle.std.proofs.Common.{◌≡◌, replicate}
use Rattle.node_order.specs.declared.search.Mark.TheVariants.{New}
use Rattle.node_order.proofs.search.new_marks.Given as goal

abbrev pub invariant-loop-i : goal.invariant-loop-i
invariant-loop-i l = l.marks.items ≡ replicate l.i New

use Rattle.std.proofs.Common.{◌-◌, length, ◌≡◌}
use Rattle.undertaker.specs.Marks.{Marked}
use Rattle.undertaker.proofs.Reached.{Progress}
use Rattle.undertaker.proofs.closing.closure.Given as goal

abbrev pub invariant-loop-at : goal.invariant-loop-at
invariant-loop-at l = record {
  progress : Progress l.graph l.wanted l.found.items l.at;
  marked : Marked l.marks l.found.items;
  count : length l.marks ≡ length l.initial.marks;
}

abbrev pub decreases-loop-at : goal.decreases-loop-at
decreases-loop-at l = length l.graph.needs - l.at

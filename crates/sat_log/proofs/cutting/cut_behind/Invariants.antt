use Rattle.std.proofs.Common.{◌≡◌, ◌<◌, ◌≤◌, true, length, get_or}
use Rattle.sat_log.specs.declared.marks.Mark.{Mark}
use Rattle.sat_log.proofs.cutting.cut_behind.Given as goal

abbrev pub invariant-loop-cut : goal.invariant-loop-cut
invariant-loop-cut l = record {
  low : l.bound ≤ l.cut;
  high : l.cut < length l.marks;
  decided : (d : Mark) → (get_or l.marks l.cut d).decided ≡ true;
}

abbrev pub decreases-loop-cut : goal.decreases-loop-cut
decreases-loop-cut l = l.cut

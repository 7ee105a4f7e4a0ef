use Rattle.std.proofs.Common.{◌≤◌, length}
use Rattle.sat_log.proofs.PlaceLoops.{TwoSoFar}
use Rattle.sat_log.proofs.cutting.latest_two.Given as goal

abbrev pub invariant-loop-i : goal.invariant-loop-i
invariant-loop-i l = record {
  in_range : l.i ≤ length l.lits;
  two : TwoSoFar l.at l.values l.set l.lits l.i l.found;
}

use Rattle.sat_log.proofs.PlaceLoops.{LatestSoFar}
use Rattle.sat_log.proofs.analysis.latest_place.Given as goal

abbrev pub invariant-loop-lit : goal.invariant-loop-lit
invariant-loop-lit l = LatestSoFar l.lits l.at l.lit-index l.place

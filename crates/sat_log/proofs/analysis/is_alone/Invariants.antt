use Rattle.sat_log.proofs.PlaceLoops.{CountedSoFar}
use Rattle.sat_log.proofs.analysis.is_alone.Given as goal

abbrev pub invariant-loop-lit : goal.invariant-loop-lit
invariant-loop-lit l = CountedSoFar l.lits l.at l.from l.lit-index l.count

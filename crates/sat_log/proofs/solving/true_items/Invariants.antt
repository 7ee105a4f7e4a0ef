use Rattle.sat_log.specs.Choosing.{AreChosen}
use Rattle.sat_log.proofs.solving.true_items.Given as goal

abbrev pub invariant-loop-k : goal.invariant-loop-k
invariant-loop-k l = AreChosen l.items l.trail.state.marks l.k l.chosen.items

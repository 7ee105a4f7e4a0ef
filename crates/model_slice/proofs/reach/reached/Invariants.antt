use Rattle.std.proofs.Common.{◌-◌, length}
use Rattle.model_slice.specs.Met.{AreNoted}
use Rattle.model_slice.proofs.Progress.{Progress}
use Rattle.model_slice.proofs.reach.reached.Given as goal

abbrev pub invariant-loop-at : goal.invariant-loop-at
invariant-loop-at g l = record {
  progress : Progress (g.S.FindFact.facts l.fn.store) l.roots l.met.nodes.items l.at;
  noted : AreNoted l.met.nodes.items l.room l.met.others.keys;
}

abbrev pub decreases-loop-at : goal.decreases-loop-at
decreases-loop-at g l = length (g.S.FindFact.facts l.fn.store) - l.at

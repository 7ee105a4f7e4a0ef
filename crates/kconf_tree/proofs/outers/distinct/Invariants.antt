-- The texts so far, each once.
use Rattle.std.proofs.Common.{◌≡◌}
use Rattle.kconf_tree.specs.Gathered.{once}
use Rattle.kconf_tree.proofs.outers.distinct.Given as goal

abbrev pub invariant-loop-text : goal.invariant-loop-text
invariant-loop-text l = l.set.keys ≡ once l.yielded

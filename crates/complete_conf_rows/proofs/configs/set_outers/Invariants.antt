-- The configuration still has the tree's counts.
use Rattle.complete_conf.specs.Config.{FitsTree}
use Rattle.complete_conf_rows.proofs.configs.set_outers.Given as goal

abbrev pub invariant-loop-number : goal.invariant-loop-number
invariant-loop-number l = FitsTree l.tree.shape l.config

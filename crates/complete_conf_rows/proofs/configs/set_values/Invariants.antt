-- The configuration still has the tree's counts.
use Rattle.complete_conf.specs.Config.{FitsTree}
use Rattle.complete_conf_rows.proofs.configs.set_values.Given as goal

abbrev pub invariant-loop-sym : goal.invariant-loop-sym
invariant-loop-sym l = FitsTree l.tree.shape l.config

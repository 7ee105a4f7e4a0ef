-- The configuration still has the tree's counts.
use Rattle.complete_conf.specs.Config.{FitsTree}
use Rattle.complete_conf_rows.proofs.configs.set_modes.Given as goal

abbrev pub invariant-loop-choice : goal.invariant-loop-choice
invariant-loop-choice l = FitsTree l.tree.shape l.config

-- What is left decides.
use Rattle.std.proofs.Common.{◌≡◌, drop}
use Rattle.kconf_tree.specs.Properties as spec
use Rattle.complete_conf.specs.Config.{by_lists}
use Rattle.complete_conf.proofs.properties.first_default.Given as goal

abbrev pub invariant-loop-default : goal.invariant-loop-default
invariant-loop-default l = spec.first_default l.tree.shape (by_lists l.config) l.defaults ≡ spec.first_default l.tree.shape (by_lists l.config) (drop l.default-index l.defaults)

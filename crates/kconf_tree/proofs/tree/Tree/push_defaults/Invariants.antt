-- What has been added, and what the rest adds, are the whole.
use Rattle.std.proofs.Common.{◌≡◌, ◌++◌, drop}
use Rattle.std.specs.List.{flat_map}
use Rattle.kconf_tree.specs.Undeclared.{undeclared_of_default}
use Rattle.kconf_tree.proofs.tree.Tree.push_defaults.Given as goal

abbrev pub invariant-loop-default : goal.invariant-loop-default
invariant-loop-default l = l.names.items ++ flat_map (undeclared_of_default l.self.shape) (drop l.default-index l.defaults) ≡ l.fn.names.items ++ flat_map (undeclared_of_default l.self.shape) l.defaults

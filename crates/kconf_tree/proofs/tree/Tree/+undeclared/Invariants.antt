-- What has been added, and what the rest adds, are the whole.
use Rattle.std.proofs.Common.{◌≡◌, ◌++◌, drop}
use Rattle.std.specs.List.{flat_map}
use Rattle.kconf_tree.specs.Undeclared.{undeclared_in}
use Rattle.kconf_tree.proofs.tree.Tree.+undeclared.Given as goal

abbrev pub invariant-push_each-loop-e : goal.invariant-push_each-loop-e
invariant-push_each-loop-e l = l.names.items ++ flat_map (undeclared_in l.self.shape) (drop l.e-index l.list) ≡ l.fn.names.items ++ flat_map (undeclared_in l.self.shape) l.list

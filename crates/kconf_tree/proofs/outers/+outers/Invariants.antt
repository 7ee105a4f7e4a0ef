-- What has been added, and what the rest adds, are the whole.
use Rattle.std.proofs.Common.{◌≡◌, ◌++◌, drop}
use Rattle.std.specs.List.{flat_map}
use Rattle.kconf_tree.specs.Gathered.{outers_in}
use Rattle.kconf_tree.specs.Types.{typed}
use Rattle.kconf_tree.proofs.outers.+outers.Given as goal

abbrev pub invariant-push_each-loop-e : goal.invariant-push_each-loop-e
invariant-push_each-loop-e l = l.texts.items ++ flat_map (outers_in (typed l.types)) (drop l.e-index l.list) ≡ l.fn.texts.items ++ flat_map (outers_in (typed l.types)) l.list

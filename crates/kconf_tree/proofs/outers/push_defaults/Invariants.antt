-- What has been added, and what the rest adds, are the whole.
use Rattle.std.proofs.Common.{◌≡◌, ◌++◌, drop}
use Rattle.std.specs.List.{flat_map}
use Rattle.kconf_tree.specs.Types.{typed, outers_of_default}
use Rattle.kconf_tree.proofs.outers.push_defaults.Given as goal

abbrev pub invariant-loop-default : goal.invariant-loop-default
invariant-loop-default l = l.texts.items ++ flat_map (outers_of_default (typed l.types)) (drop l.default-index l.defaults) ≡ l.fn.texts.items ++ flat_map (outers_of_default (typed l.types)) l.defaults

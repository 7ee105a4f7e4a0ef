-- What has been added, and what the rest adds, are the whole.
use Rattle.std.proofs.Common.{◌≡◌, ◌++◌, drop}
use Rattle.std.specs.List.{flat_map}
use Rattle.kconf_tree.specs.Gathered.{outers_of_config}
use Rattle.kconf_tree.specs.Types.{typed}
use Rattle.kconf_tree.proofs.outers.push_configs.Given as goal

abbrev pub invariant-loop-config : goal.invariant-loop-config
invariant-loop-config l = l.texts.items ++ flat_map (outers_of_config (typed l.types)) (drop l.config-index l.configs) ≡ l.fn.texts.items ++ flat_map (outers_of_config (typed l.types)) l.configs

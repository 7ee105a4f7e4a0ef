-- The configs so far have their choices.
use Rattle.std.proofs.Common.{◌<◌, All, take}
use Rattle.std.specs.Option.{IfSome}
use Rattle.kconf_entries.specs.declared.entries.ConfigEntry.{ConfigEntry}
use Rattle.kconf_tree.proofs.having_choices.have_choices.Given as goal

abbrev pub invariant-loop-config : goal.invariant-loop-config
invariant-loop-config l = All (λ (c : ConfigEntry). IfSome c.choice (λ i. i < l.count)) (take l.config-index l.entries.configs)

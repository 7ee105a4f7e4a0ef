use Rattle.std.proofs.Common.{◌≡◌, map, take}
use Rattle.kconf_progress.specs.Conditions.{full_default_of}
use Rattle.kconf_progress.proofs.conditions.full_defaults.Given as goal

abbrev pub invariant-loop-default : goal.invariant-loop-default
invariant-loop-default l = l.list.items ≡ map (full_default_of l.place) (take l.default-index l.own)

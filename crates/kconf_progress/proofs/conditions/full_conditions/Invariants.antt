use Rattle.std.proofs.Common.{◌≡◌, map, take}
use Rattle.kconf_progress.specs.Conditions.{full_of}
use Rattle.kconf_progress.proofs.conditions.full_conditions.Given as goal

abbrev pub invariant-loop-condition : goal.invariant-loop-condition
invariant-loop-condition l = l.list.items ≡ map (full_of l.place) (take l.condition-index l.own)

use Rattle.std.proofs.Common.{◌≡◌, map, take}
use Rattle.kconf_progress.specs.Conditions.{full_select_of}
use Rattle.kconf_progress.proofs.conditions.full_selects.Given as goal

abbrev pub invariant-loop-select : goal.invariant-loop-select
invariant-loop-select l = l.list.items ≡ map (full_select_of l.place) (take l.select-index l.own)

-- The formulas so far are those of the first of the list.
use Rattle.std.proofs.Common.{◌≡◌, map, take}
use Rattle.kconf_constr.specs.Levels as spec
use Rattle.kconf_constr.proofs.scope.Scope.+level.Given as goal

abbrev pub invariant-formulas_in-loop-e : goal.invariant-formulas_in-loop-e
invariant-formulas_in-loop-e l = l.all.items ≡ map (spec.at_level l.level) (map (spec.levels l.self l.place) (take l.e-index l.list))

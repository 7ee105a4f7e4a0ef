use Rattle.std.proofs.Common.{◌≡◌, map, take}
use Rattle.kconf_tree.specs.Shape.{implying_of}
use Rattle.kconf_constr.specs.PropertyFormulas as spec
use Rattle.kconf_constr.proofs.scope.Scope.implied_each.Given as goal

abbrev pub invariant-loop-implier : goal.invariant-loop-implier
invariant-loop-implier l = l.all.items ≡ map (spec.selected_at l.self l.level) (map (implying_of l.self.shape) (take l.implier-index l.impliers))

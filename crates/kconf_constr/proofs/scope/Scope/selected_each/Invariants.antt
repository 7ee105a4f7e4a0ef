use Rattle.std.proofs.Common.{◌≡◌, map, take}
use Rattle.kconf_tree.specs.Shape.{selecting_of}
use Rattle.kconf_constr.specs.PropertyFormulas as spec
use Rattle.kconf_constr.proofs.scope.Scope.selected_each.Given as goal

abbrev pub invariant-loop-selector : goal.invariant-loop-selector
invariant-loop-selector l = l.all.items ≡ map (spec.selected_at l.self l.level) (map (selecting_of l.self.shape) (take l.selector-index l.selectors))

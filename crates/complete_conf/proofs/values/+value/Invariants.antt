-- So far it is the least, or the greatest, of the first ones.
use Rattle.std.proofs.Common.{◌≡◌, map, take}
use Rattle.ut_logic.specs.Trit.{rank}
use Rattle.kconf_tree.specs.Value as spec
use Rattle.complete_conf.specs.Config.{by_lists}
use Rattle.complete_conf.proofs.values.+value.Given as goal

abbrev pub invariant-least_of-loop-part : goal.invariant-least_of-loop-part
invariant-least_of-loop-part l = rank l.least ≡ spec.least (map (spec.value_in l.tree.shape (by_lists l.config) l.place) (take l.part-index l.list))

abbrev pub invariant-greatest_of-loop-part : goal.invariant-greatest_of-loop-part
invariant-greatest_of-loop-part l = rank l.greatest ≡ spec.greatest (map (spec.value_in l.tree.shape (by_lists l.config) l.place) (take l.part-index l.list))

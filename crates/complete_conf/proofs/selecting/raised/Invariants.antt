-- So far it is the greatest of the first ones.
use Rattle.std.proofs.Common.{◌≡◌, map, take}
use Rattle.ut_logic.specs.Trit.{rank}
use Rattle.kconf_tree.specs.Shape.{selecting_of}
use Rattle.kconf_tree.specs.Value.{greatest}
use Rattle.kconf_tree.specs.Properties.{selected_by}
use Rattle.complete_conf.specs.Config.{by_lists}
use Rattle.complete_conf.proofs.selecting.raised.Given as goal

abbrev pub invariant-loop-selector : goal.invariant-loop-selector
invariant-loop-selector l = rank l.greatest ≡ greatest (map (λ s. selected_by l.tree.shape (by_lists l.config) (selecting_of l.tree.shape s)) (take l.selector-index l.selectors))

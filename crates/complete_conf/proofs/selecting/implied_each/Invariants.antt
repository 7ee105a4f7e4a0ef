-- So far it is the greatest of the first ones.
use Rattle.std.proofs.Common.{◌≡◌, map, take}
use Rattle.ut_logic.specs.Trit.{rank}
use Rattle.kconf_tree.specs.Shape.{implying_of}
use Rattle.kconf_tree.specs.Value.{greatest}
use Rattle.kconf_tree.specs.Properties.{selected_by}
use Rattle.complete_conf.specs.Config.{by_lists}
use Rattle.complete_conf.proofs.selecting.implied_each.Given as goal

abbrev pub invariant-loop-implier : goal.invariant-loop-implier
invariant-loop-implier l = rank l.greatest ≡ greatest (map (λ s. selected_by l.tree.shape (by_lists l.config) (implying_of l.tree.shape s)) (take l.implier-index l.impliers))

-- What is left decides.
use Rattle.std.proofs.Common.{◌≡◌, drop}
use Rattle.std.specs.List.{list_any}
use Rattle.kconf_tree.specs.Valid.{can_be_y}
use Rattle.complete_conf.specs.Config.{by_lists}
use Rattle.complete_conf.proofs.validity.some_can_be_y.Given as goal

abbrev pub invariant-loop-member : goal.invariant-loop-member
invariant-loop-member l = list_any (can_be_y l.tree.shape (by_lists l.config)) l.members
    ≡ list_any (can_be_y l.tree.shape (by_lists l.config)) (drop l.member-index l.members)

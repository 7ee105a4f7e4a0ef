-- What is left decides.
use Rattle.std.proofs.Common.{◌≡◌, drop}
use Rattle.std.specs.List.{list_all}
use Rattle.ut_logic.specs.Trit.{rank}
use Rattle.kconf_tree.specs.Right.{keeps_mode}
use Rattle.complete_conf.specs.Config.{by_lists}
use Rattle.complete_conf.proofs.validity.members_keep.Given as goal

abbrev pub invariant-loop-member : goal.invariant-loop-member
invariant-loop-member l = list_all (keeps_mode l.tree.shape (by_lists l.config) (rank l.mode)) l.members
    ≡ list_all (keeps_mode l.tree.shape (by_lists l.config) (rank l.mode)) (drop l.member-index l.members)

-- The number of the earlier ones.
use Rattle.std.proofs.Common.{◌≡◌, ◌≤◌, length, filter, take}
use Rattle.kconf_tree.specs.Valid.{is_y}
use Rattle.complete_conf.specs.Config.{by_lists}
use Rattle.complete_conf.proofs.validity.count_y.Given as goal

abbrev pub invariant-loop-member : goal.invariant-loop-member
invariant-loop-member l = record {
  counted : l.count ≡ length (filter (is_y (by_lists l.config)) (take l.member-index l.members));
  small : l.count ≤ l.member-index;
}

-- What is left decides.
use Rattle.std.proofs.Common.{◌≡◌, drop}
use Rattle.std.specs.List.{find}
use Rattle.complete_conf.specs.Config.{by_lists}
use Rattle.complete_conf.specs.Free as spec
use Rattle.complete_conf.proofs.choosing.member_candidate.Given as goal

abbrev pub invariant-loop-member : goal.invariant-loop-member
invariant-loop-member l = find (spec.is_candidate l.tree.shape (by_lists l.config) l.choice) l.members ≡ find (spec.is_candidate l.tree.shape (by_lists l.config) l.choice) (drop l.member-index l.members)

-- The earlier ones have their values.
use Rattle.std.proofs.Common.{◌≡◌, take}
use Rattle.complete_conf.specs.Config.{by_lists, KeepsLengths}
use Rattle.complete_conf.specs.Inner.{HaveValues, with_picked}
use Rattle.complete_conf.specs.Parts.{part_of}
use Rattle.complete_conf.proofs.completing.complete_members.Given as goal

abbrev pub invariant-loop-member : goal.invariant-loop-member
invariant-loop-member l = record {
  value : HaveValues l.initial.config l.members → by_lists l.config ≡ with_picked (part_of l.known) (by_lists l.initial.config) l.picked (take l.member-index l.members);
  lengths : KeepsLengths l.initial.config l.config;
}

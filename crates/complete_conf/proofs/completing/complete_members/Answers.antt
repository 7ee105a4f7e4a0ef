use Rattle.std.proofs.Common.{◌∙◌, ◌<◌, get_or, length, refl, arith}
use Rattle.complete_conf.specs.Config.{by_lists}
use Rattle.complete_conf.specs.Parts.{part_of}
use Rattle.complete_conf.proofs.Picked.{picked_more, one_has}
use Rattle.complete_conf.proofs.completing.complete_members.Goals as goal

pub loop-member-preserved : goal.loop-member-preserved
loop-member-preserved c = let i = c.loop-member.member-index in let ms = c.args.members.now in let so = c.loop-member.invariant.lengths in let one = c.complete_member.ensures.lengths in
    let l : i < length ms = omega arith in
    record {
      value = λ have. picked_more (part_of c.args.known.now) (by_lists c.args.config.now) (by_lists c.loop-member.config) (by_lists c.complete_member.new.config) c.args.picked ms i (get_or ms i 0) l refl (c.loop-member.invariant.value have)
          (c.complete_member.ensures.value (one_has (length c.loop-member.config.values) (length c.args.config.now.values) ms i l so.values have));
      lengths = record { values = one.values ∙ so.values; modes = one.modes ∙ so.modes; outers = one.outers ∙ so.outers };
    }

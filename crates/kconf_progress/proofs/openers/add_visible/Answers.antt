use Rattle.std.proofs.Common.{◌++◌, ◌∙◌, ap, refl}
use Rattle.kconf_entries.specs.Joined.{members_of_all}
use Rattle.kconf_progress.specs.Openers.{inherited_visible}
use Rattle.kconf_progress.proofs.MemberLaws.{one_more}
use Rattle.kconf_progress.proofs.openers.add_visible.Goals as goal

pub loop-opener-preserved : goal.loop-opener-preserved
loop-opener-preserved c =
    one_more inherited_visible (λ o. o.visible) c.loop-opener.list.items c.add_all_members.new.list.items _ c.args.openers.now c.loop-opener.opener-index c.opener-item.result
    (λ x xs. refl) c.loop-opener-test.true c.opener-item.is
    (c.in_ok-add_all_members.ensures ∙ ap (λ x. c.loop-opener.list.items ++ members_of_all x) c.as_slice.ensures)
    c.loop-opener.invariant

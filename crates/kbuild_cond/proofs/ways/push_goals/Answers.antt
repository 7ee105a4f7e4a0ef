use Rattle.std.proofs.Common.{◌++◌}
use Rattle.std.specs.List.{flat_map}
use Rattle.kbuild_cond.proofs.NamingLaws.{list_done, list_more, naming_in}
use Rattle.kbuild_cond.proofs.ways.push_goals.Goals as goal

pub loop-goal-preserved : goal.loop-goal-preserved
loop-goal-preserved c =
    let named = naming_in c.args.place.base.now c.args.place.folder.now c.args.steps.now in
    list_more named c.args.goals.now c.loop-goal.goal-index c.goal-item.result c.loop-goal.namings.items c.push_goal.new.namings.items (c.args.namings.now.items ++ flat_map named c.args.goals.now)
    c.loop-goal-test.true c.goal-item.is c.in_ok-push_goal.ensures c.loop-goal.invariant

pub returns : goal.returns
returns c =
    let named = naming_in c.args.place.base.now c.args.place.folder.now c.args.steps.now in
    list_done named c.args.goals.now c.loop-goal.goal-index c.loop-goal.namings.items (c.args.namings.now.items ++ flat_map named c.args.goals.now) c.loop-goal-test.false c.loop-goal.invariant

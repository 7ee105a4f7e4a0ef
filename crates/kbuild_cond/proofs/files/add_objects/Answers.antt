use Rattle.std.specs.List.{flat_map}
use Rattle.kbuild_cond.specs.Files.{object_ways}
use Rattle.kbuild_cond.proofs.AddingLaws.{item_on, item_out, items_end}
use Rattle.kbuild_cond.proofs.files.add_objects.Goals as goal

pub returns-in_err-add_goal : goal.returns-in_err-add_goal
returns-in_err-add_goal c =
    let ways = object_ways c.args.place.base.now c.args.place.folder.now c.args.led.fronts.now c.args.led.leads.now c.args.led.steps.now in
    item_out ways c.args.goals.now c.loop-goal.goal-index (flat_map ways c.args.goals.now) c.args.files.now c.loop-goal.files c.goal-item.result c.loop-goal-test.true c.goal-item.is c.add_goal.new.files c.add_goal.new.files
    c.in_err-add_goal.field-0.0 c.from_residual.result c.from_residual.ensures.1 c.loop-goal.invariant c.in_err-add_goal.ensures

pub loop-goal-preserved : goal.loop-goal-preserved
loop-goal-preserved c =
    let ways = object_ways c.args.place.base.now c.args.place.folder.now c.args.led.fronts.now c.args.led.leads.now c.args.led.steps.now in
    item_on ways c.args.goals.now c.loop-goal.goal-index (flat_map ways c.args.goals.now) c.args.files.now c.loop-goal.files c.goal-item.result c.loop-goal-test.true c.goal-item.is c.add_goal.new.files c.loop-goal.invariant c.in_ok-add_goal.ensures

pub returns : goal.returns
returns c =
    let ways = object_ways c.args.place.base.now c.args.place.folder.now c.args.led.fronts.now c.args.led.leads.now c.args.led.steps.now in
    items_end ways c.args.goals.now c.loop-goal.goal-index (flat_map ways c.args.goals.now) c.args.files.now c.loop-goal.files c.loop-goal-test.false c.loop-goal.invariant

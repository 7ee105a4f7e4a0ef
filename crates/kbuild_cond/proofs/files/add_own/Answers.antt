use Rattle.std.proofs.Common.{[], ◌∷◌}
use Rattle.std.specs.List.{flat_map}
use Rattle.kbuild_cond.specs.Files.{object_ways, with_ways}
use Rattle.kbuild_cond.proofs.AddingLaws.{ways_done, ways_more}
use Rattle.kbuild_cond.proofs.files.add_own.Goals as goal

pub loop-goal-preserved : goal.loop-goal-preserved
loop-goal-preserved c =
    let ways = object_ways c.args.place.base.now c.args.place.folder.now ([] ∷ []) ([] ∷ []) c.args.steps.now in
    ways_more ways c.args.goals.now c.loop-goal.goal-index c.goal-item.result c.loop-goal-test.true c.goal-item.is c.loop-goal.own.files c.add_own_goal.new.own.files
    (with_ways c.args.own.now.files (flat_map ways c.args.goals.now)) c.in_ok-add_own_goal.ensures c.loop-goal.invariant

pub returns : goal.returns
returns c =
    let ways = object_ways c.args.place.base.now c.args.place.folder.now ([] ∷ []) ([] ∷ []) c.args.steps.now in
    ways_done ways c.args.goals.now c.loop-goal.goal-index c.loop-goal.own.files (with_ways c.args.own.now.files (flat_map ways c.args.goals.now)) c.loop-goal-test.false c.loop-goal.invariant

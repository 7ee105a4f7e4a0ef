-- The goals that are left lead to the same files as all did.
use Rattle.std.proofs.Common.{drop}
use Rattle.std.specs.List.{flat_map}
use Rattle.kbuild_cond.specs.Adding.{AddsLeft}
use Rattle.kbuild_cond.specs.Files.{object_ways}
use Rattle.kbuild_cond.proofs.files.add_objects.Given as goal

abbrev pub invariant-loop-goal : goal.invariant-loop-goal
invariant-loop-goal l =
    let ways = object_ways l.place.base.now l.place.folder.now l.led.fronts.now l.led.leads.now l.led.steps.now in
    AddsLeft (flat_map ways l.goals) l.initial.files (flat_map ways (drop l.goal-index l.goals)) l.files

use Rattle.std.proofs.Common.{◌≡◌, drop}
use Rattle.kbuild_folders.specs.Folders as spec
use Rattle.kbuild_folders.proofs.folders.Folders.mention_goals.Given as goal

abbrev pub invariant-loop-goal : goal.invariant-loop-goal
invariant-loop-goal l =
    spec.with_names l.self (spec.folders_in l.place.base.now l.place.folder.now (drop l.goal-index l.goals))
    ≡ spec.with_names l.initial.self (spec.folders_in l.place.base.now l.place.folder.now l.goals)

-- What is left to add leads to the same words.
use Rattle.std.proofs.Common.{◌≡◌, ◌++◌, drop}
use Rattle.std.specs.List.{flat_map}
use Rattle.kbuild_cond.proofs.NamingLaws.{naming_in}
use Rattle.kbuild_cond.proofs.ways.push_goals.Given as goal

abbrev pub invariant-loop-goal : goal.invariant-loop-goal
invariant-loop-goal l =
    let named = naming_in l.place.base.now l.place.folder.now l.steps in
    l.namings.items ++ flat_map named (drop l.goal-index l.goals) ≡ l.initial.namings.items ++ flat_map named l.goals

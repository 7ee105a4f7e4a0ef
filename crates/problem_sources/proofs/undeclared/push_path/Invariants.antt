-- What has been added, and what the rest adds, are the whole.
use Rattle.std.proofs.Common.{◌≡◌, ◌++◌, drop}
use Rattle.std.specs.List.{flat_map}
use Rattle.ut_case.specs.Numbering.{step_undeclared}
use Rattle.problem_sources.specs.Grounds.{basis_of}
use Rattle.problem_sources.proofs.undeclared.push_path.Given as goal

abbrev pub invariant-loop-step : goal.invariant-loop-step
invariant-loop-step l = l.names.items ++ flat_map (step_undeclared (basis_of l.ground)) (drop l.step-index l.steps) ≡ l.fn.names.items ++ flat_map (step_undeclared (basis_of l.ground)) l.steps

-- What has been added, and what the rest adds, are the whole.
use Rattle.std.proofs.Common.{◌≡◌, ◌++◌, drop}
use Rattle.std.specs.List.{flat_map}
use Rattle.ut_case.specs.Numbering.{step_undeclared}
use Rattle.problem_sources.specs.Grounds.{basis_of}
use Rattle.problem_sources.proofs.undeclared.push_paths.Given as goal

abbrev pub invariant-loop-path : goal.invariant-loop-path
invariant-loop-path l = l.names.items ++ flat_map (flat_map (step_undeclared (basis_of l.ground))) (drop l.path-index l.paths) ≡ l.fn.names.items ++ flat_map (flat_map (step_undeclared (basis_of l.ground))) l.paths

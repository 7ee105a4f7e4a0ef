-- The names of the earlier sources are added.
use Rattle.std.proofs.Common.{take, map}
use Rattle.std.specs.List.{flat_map}
use Rattle.ut_case.specs.Numbering.{source_undeclared}
use Rattle.problem_sources.specs.Grounds.{basis_of, posed_source}
use Rattle.problem_sources.specs.Undeclared.{AddsNames}
use Rattle.problem_sources.proofs.undeclared.add_sources.Given as goal

abbrev pub invariant-loop-source : goal.invariant-loop-source
invariant-loop-source l = AddsNames l.initial.set l.set (flat_map (source_undeclared (basis_of l.ground)) (map (posed_source l.conds) (take l.source-index l.sources)))

-- What has been added, and what the rest adds, are the whole.
use Rattle.std.proofs.Common.{◌≡◌, ◌++◌, drop}
use Rattle.std.specs.List.{flat_map}
use Rattle.ut_case.specs.Names.{config_name}
use Rattle.ut_case.specs.Numbering.{macro_undeclared}
use Rattle.problem_sources.specs.Grounds.{basis_of}
use Rattle.problem_sources.proofs.undeclared.push_macros.Given as goal

abbrev pub invariant-loop-name : goal.invariant-loop-name
invariant-loop-name l = l.names.items ++ flat_map (λ m. macro_undeclared (basis_of l.ground) m (config_name m)) (drop l.name-index l.macros) ≡ l.fn.names.items ++ flat_map (λ m. macro_undeclared (basis_of l.ground) m (config_name m)) l.macros

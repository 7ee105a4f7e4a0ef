-- The conditions so far and those that are left are all.
use Rattle.std.proofs.Common.{◌≡◌, ◌++◌, drop}
use Rattle.std.specs.List.{flat_map}
use Rattle.ut_text.specs.Text.{text_eq}
use Rattle.cpp_blocks.specs.Mentions.{firsts}
use Rattle.ut_case.specs.Numbering.{basis_outers, step_outers}
use Rattle.problem_sources.specs.Grounds.{basis_of}
use Rattle.problem_sources.proofs.numbering.add_paths.Given as goal

abbrev pub invariant-loop-path : goal.invariant-loop-path
invariant-loop-path l = firsts text_eq (basis_outers (basis_of l.ground) ++ l.more.keys) (flat_map (flat_map step_outers) (drop l.path-index l.paths)) ≡ firsts text_eq (basis_outers (basis_of l.ground) ++ l.fn.more.keys) (flat_map (flat_map step_outers) l.paths)

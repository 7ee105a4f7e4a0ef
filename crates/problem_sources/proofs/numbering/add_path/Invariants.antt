-- The conditions so far and those that are left are all.
use Rattle.std.proofs.Common.{◌≡◌, ◌++◌, drop}
use Rattle.std.specs.List.{flat_map}
use Rattle.ut_text.specs.Text.{text_eq}
use Rattle.cpp_blocks.specs.Mentions.{firsts}
use Rattle.ut_case.specs.Numbering.{basis_outers, step_outers}
use Rattle.problem_sources.specs.Grounds.{basis_of}
use Rattle.problem_sources.proofs.numbering.add_path.Given as goal

abbrev pub invariant-loop-step : goal.invariant-loop-step
invariant-loop-step l = firsts text_eq (basis_outers (basis_of l.ground) ++ l.more.keys) (flat_map step_outers (drop l.step-index l.steps)) ≡ firsts text_eq (basis_outers (basis_of l.ground) ++ l.fn.more.keys) (flat_map step_outers l.steps)

use Rattle.cpp_blocks.proofs.SolutionLaws.{the_run}
use Rattle.cpp_blocks.proofs.laws.facts_are_the_run.Goals as goal

pub returns : goal.returns
returns a file ds starts built formed count given outside = the_run file ds starts built formed count given outside

use Rattle.cpp_blocks.proofs.SaidLaws.{all_mention, all_define}
use Rattle.cpp_blocks.proofs.laws.facts_mention_their_own.Goals as goal

pub returns-clause-mentions : goal.returns-clause-mentions
returns-clause-mentions a file ds starts built = all_mention file ds starts built

pub returns-clause-defines : goal.returns-clause-defines
returns-clause-defines a file ds starts built = all_define file ds starts built

use Rattle.cpp_blocks.proofs.FreeLaws.{all_listed_given}
use Rattle.cpp_blocks.proofs.GivenLaws.{all_own, all_given}
use Rattle.cpp_blocks.proofs.laws.facts_list_their_own.Goals as goal

pub returns-clause-lists : goal.returns-clause-lists
returns-clause-lists a file ds starts built given loose = all_own file ds starts built given loose

pub returns-clause-names : goal.returns-clause-names
returns-clause-names a file ds starts built = all_given file ds starts built

pub returns-clause-given : goal.returns-clause-given
returns-clause-given a file ds starts built = all_listed_given file ds starts built

use Rattle.cpp_blocks.specs.Facts.{facts_of}
use Rattle.cpp_blocks.specs.Nodes.{IsOrderly, IsListed, IsListedStart, MentionsOwn}
use Rattle.cpp_blocks.proofs.Listing.{all_listed}
use Rattle.cpp_blocks.proofs.Meeting.{each_of, all_of_each}
use Rattle.cpp_blocks.proofs.NodesLaws.{all_nodes}
use Rattle.cpp_blocks.proofs.OwnLaws.{facts_own}
use Rattle.cpp_blocks.proofs.Ranks.{all_orderly}
use Rattle.cpp_blocks.proofs.laws.facts_are_orderly.Goals as goal

pub returns-clause-known : goal.returns-clause-known
returns-clause-known a file ds starts built formed count = all_nodes file ds starts built formed count

pub returns-clause-orderly : goal.returns-clause-orderly
returns-clause-orderly a file ds starts built formed given listed = all_of_each (IsOrderly file ds) (facts_of file ds starts built)
    (all_orderly file ds starts built formed (each_of IsListedStart starts given) listed)

pub returns-clause-listed : goal.returns-clause-listed
returns-clause-listed a file ds starts built given listed = all_of_each IsListed (facts_of file ds starts built) (all_listed file ds starts built (each_of IsListedStart starts given) listed)

pub returns-clause-own : goal.returns-clause-own
returns-clause-own a file ds starts built formed given listed = let facts = facts_of file ds starts built in let starts_listed = each_of IsListedStart starts given in
    all_of_each (MentionsOwn file) facts (facts_own file ds facts (all_orderly file ds starts built formed starts_listed listed) (all_listed file ds starts built starts_listed listed))

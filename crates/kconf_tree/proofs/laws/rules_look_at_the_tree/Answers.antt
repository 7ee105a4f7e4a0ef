use Rattle.kconf_tree.proofs.SameIn.{rules_same, written_same}
use Rattle.kconf_tree.proofs.laws.rules_look_at_the_tree.Goals as goal

pub returns-clause-rules : goal.returns-clause-rules
returns-clause-rules a t made c d same r = rules_same t made c d same r

pub returns-clause-written : goal.returns-clause-written
returns-clause-written a t made c d same k = written_same t made c d same k

use Rattle.cpp_read.proofs.ConditionLaws.{condition_reads}
use Rattle.cpp_read.proofs.reader.conditions_follow_rules.Goals as goal

pub returns : goal.returns
returns c = condition_reads

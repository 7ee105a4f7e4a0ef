use Rattle.worked_rows.proofs.Chain.{seen_first, seen_second, same_second}
use Rattle.worked_rows.proofs.laws.one_chain.Goals as goal

pub returns-clause-defined : goal.returns-clause-defined
returns-clause-defined c = seen_first

pub returns-clause-not_defined : goal.returns-clause-not_defined
returns-clause-not_defined c = seen_second

pub returns-clause-same_again : goal.returns-clause-same_again
returns-clause-same_again c = same_second

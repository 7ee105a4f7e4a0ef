use Rattle.case_laws.proofs.One.{one_form}
use Rattle.case_laws.proofs.clauses.clauses_are_one.Goals as goal

pub returns : goal.returns
returns c = one_form

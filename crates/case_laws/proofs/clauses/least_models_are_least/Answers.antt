use Rattle.case_laws.proofs.Least.{least_met}
use Rattle.case_laws.proofs.clauses.least_models_are_least.Goals as goal

pub returns : goal.returns
returns c = least_met

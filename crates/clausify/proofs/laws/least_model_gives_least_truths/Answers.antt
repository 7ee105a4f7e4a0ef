use Rattle.clausify.proofs.OverLaws.{least_over}
use Rattle.clausify.proofs.laws.least_model_gives_least_truths.Goals as goal

pub returns : goal.returns
returns a items facts wish vars clauses w v form room model least reads = least_over items facts wish vars clauses w v form room model least reads

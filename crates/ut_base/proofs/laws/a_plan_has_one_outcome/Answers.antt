use Rattle.ut_base.proofs.PlanLaws.{one_outcome}
use Rattle.ut_base.proofs.laws.a_plan_has_one_outcome.Goals as goal

pub returns : goal.returns
returns g c = λ files p used now r h. one_outcome g.E.ReadError.errors files p used now r h

use Rattle.log_check.proofs.StepLaws.{step_only}
use Rattle.log_check.proofs.steps.read_step.Goals as goal

pub returns-clause-only : goal.returns-clause-only
returns-clause-only c = step_only _ _ c.in_ok-found.ensures

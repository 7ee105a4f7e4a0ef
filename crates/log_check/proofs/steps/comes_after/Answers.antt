use Rattle.log_check.proofs.StepLaws.{above_all}
use Rattle.log_check.proofs.steps.comes_after.Goals as goal

pub returns-in-Some : goal.returns-in-Some
returns-in-Some c = above_all _ _ _ c.requires c.in-Some.ensures.item.3

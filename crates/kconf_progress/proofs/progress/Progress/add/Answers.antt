use Rattle.kconf_progress.proofs.AddLaws.{added}
use Rattle.kconf_progress.proofs.progress.Progress.add.Goals as goal

pub returns-clause-stands : goal.returns-clause-stands
returns-clause-stands c = λ before s f. added before c.args.self.now c.step.new.self c.args.line c.args.says c.step.result s f c.step.ensures.step

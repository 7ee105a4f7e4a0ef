use Rattle.std.proofs.Common.{◌∙◌}
use Rattle.kconf_progress.proofs.AddLaws.{unclosed_stands}
use Rattle.kconf_progress.proofs.progress.Progress.unclosed.Goals as goal

pub returns : goal.returns
returns c = λ before s. c.outermost.ensures ∙ unclosed_stands before c.args.self.now s

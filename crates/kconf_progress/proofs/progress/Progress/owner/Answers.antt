use Rattle.std.proofs.Common.{◌∙◌}
use Rattle.kconf_progress.proofs.AddLaws.{owner_is}
use Rattle.kconf_progress.proofs.progress.Progress.owner.Goals as goal

pub returns : goal.returns
returns c = λ before s. c.entry_kind.ensures ∙ owner_is before c.args.self.now s

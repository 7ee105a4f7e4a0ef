use Rattle.std.proofs.Common.{[], subst, sym}
use Rattle.kconf_progress.specs.Progress.{Stands}
use Rattle.kconf_progress.proofs.AddLaws.{starts}
use Rattle.kconf_progress.proofs.progress.Progress.new.Goals as goal

pub returns : goal.returns
returns c = subst (Stands []) (sym c.at_start.ensures) starts

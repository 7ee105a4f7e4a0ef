use Rattle.std.proofs.lemmas.Slice.Eq.{slice_eq-Decides}
use Rattle.log_check.proofs.Resolvents.{literal_decides}
use Rattle.log_check.proofs.running.RunningClause.is.Goals as goal

pub returns : goal.returns
returns c = rw (← c.self.view_is, ← c.as_slice.ensures.value, ← c.lits.ensures.value) (slice_eq-Decides literal_decides _ _ _ c.eq.ensures)

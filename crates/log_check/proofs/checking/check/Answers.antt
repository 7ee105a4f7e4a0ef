use Rattle.log_check.proofs.Verdicts.{verdict_accepted, verdict_first, verdict_no_model}
use Rattle.log_check.proofs.checking.check.Goals as goal

pub returns-clause-accepted : goal.returns-clause-accepted
returns-clause-accepted c = verdict_accepted _ _ _ (rw (c.as_slice.ensures, c.as_slice-2.ensures) at c.in_ok-found.ensures)

pub returns-clause-first : goal.returns-clause-first
returns-clause-first c = λ line e. verdict_first _ _ _ (rw (c.as_slice.ensures, c.as_slice-2.ensures) at c.in_ok-found.ensures) line (cc)

pub returns-clause-no_model : goal.returns-clause-no_model
returns-clause-no_model c = λ e. verdict_no_model _ _ _ (rw (c.as_slice.ensures, c.as_slice-2.ensures) at c.in_ok-found.ensures) (cc)

use Rattle.ut_case.proofs.Asking.{selected_met, dropped_met}
use Rattle.ut_case.proofs.laws.questions_ask.Goals as goal

pub returns-clause-selected : goal.returns-clause-selected
returns-clause-selected c = selected_met

pub returns-clause-dropped : goal.returns-clause-dropped
returns-clause-dropped c = dropped_met

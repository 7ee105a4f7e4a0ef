use Rattle.worked_rows.proofs.Undecided.{selected_word, dropped_word, undecided_report}
use Rattle.worked_rows.proofs.laws.undecided_block.Goals as goal

pub returns-clause-selected : goal.returns-clause-selected
returns-clause-selected c = selected_word

pub returns-clause-dropped : goal.returns-clause-dropped
returns-clause-dropped c = dropped_word

pub returns-clause-report : goal.returns-clause-report
returns-clause-report c = undecided_report

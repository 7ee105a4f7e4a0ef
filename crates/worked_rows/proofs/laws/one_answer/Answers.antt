use Rattle.worked_rows.proofs.OneWord.{one_word, one_report}
use Rattle.worked_rows.proofs.laws.one_answer.Goals as goal

pub returns-clause-word : goal.returns-clause-word
returns-clause-word c = one_word

pub returns-clause-report : goal.returns-clause-report
returns-clause-report c = one_report

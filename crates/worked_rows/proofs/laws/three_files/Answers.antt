use Rattle.worked_rows.proofs.Gated.{gated_word, plain_word}
use Rattle.worked_rows.proofs.Reports.{three_report}
use Rattle.worked_rows.proofs.laws.three_files.Goals as goal

pub returns-clause-dead : goal.returns-clause-dead
returns-clause-dead c = gated_word

pub returns-clause-live : goal.returns-clause-live
returns-clause-live c = plain_word

pub returns-clause-report : goal.returns-clause-report
returns-clause-report c = three_report

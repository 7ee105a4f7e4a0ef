use Rattle.worked_rows.proofs.Dependent.{dependent_first, dependent_second}
use Rattle.worked_rows.proofs.Reports.{dependent_report}
use Rattle.worked_rows.proofs.laws.dependent_block.Goals as goal

pub returns-clause-live : goal.returns-clause-live
returns-clause-live c = dependent_first

pub returns-clause-dead : goal.returns-clause-dead
returns-clause-dead c = dependent_second

pub returns-clause-report : goal.returns-clause-report
returns-clause-report c = dependent_report

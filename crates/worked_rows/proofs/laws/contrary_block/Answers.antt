use Rattle.worked_rows.proofs.Dependent.{contrary_first, contrary_second}
use Rattle.worked_rows.proofs.Reports.{contrary_report}
use Rattle.worked_rows.proofs.laws.contrary_block.Goals as goal

pub returns-clause-live : goal.returns-clause-live
returns-clause-live c = contrary_first

pub returns-clause-dead : goal.returns-clause-dead
returns-clause-dead c = contrary_second

pub returns-clause-report : goal.returns-clause-report
returns-clause-report c = contrary_report

use Rattle.worked_rows.proofs.Reports.{empty_report}
use Rattle.worked_rows.proofs.laws.empty_source.Goals as goal

pub returns : goal.returns
returns c = empty_report

use Rattle.report_lines.proofs.VerdictLaws.{lines_right}
use Rattle.report_lines.proofs.laws.lines_are_right.Goals as goal

pub returns : goal.returns
returns c = lines_right

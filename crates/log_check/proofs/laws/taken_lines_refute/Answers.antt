use Rattle.log_check.proofs.Deriving.{taken_refute}
use Rattle.log_check.proofs.laws.taken_lines_refute.Goals as goal

pub returns : goal.returns
returns c = taken_refute

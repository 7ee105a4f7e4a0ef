use Rattle.sat_log.proofs.GoingOn.{goes_on}
use Rattle.sat_log.proofs.laws.run_goes_on.Goals as goal

pub returns : goal.returns
returns c = goes_on

use Rattle.sat_log.proofs.Bound.{number_begins, number_falls}
use Rattle.sat_log.proofs.laws.number_falls.Goals as goal

pub returns-clause-begins : goal.returns-clause-begins
returns-clause-begins c = number_begins

pub returns-clause-falls : goal.returns-clause-falls
returns-clause-falls c = number_falls

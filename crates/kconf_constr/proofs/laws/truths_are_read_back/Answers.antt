use Rattle.kconf_constr.proofs.StandLaws.{same}
use Rattle.kconf_constr.proofs.laws.truths_are_read_back.Goals as goal

pub returns : goal.returns
returns a s made c covered rules = same s made c covered rules

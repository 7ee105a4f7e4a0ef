use Rattle.kconf_constr.proofs.StandLaws.{some_configuration}
use Rattle.kconf_constr.proofs.laws.truths_stand.Goals as goal

pub returns : goal.returns
returns a s made up nodes v closed met = some_configuration s made nodes closed v met up

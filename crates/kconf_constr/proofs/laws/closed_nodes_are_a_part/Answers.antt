use Rattle.kconf_constr.proofs.StandLaws.{closed_part}
use Rattle.kconf_constr.proofs.laws.closed_nodes_are_a_part.Goals as goal

pub returns : goal.returns
returns a s made nodes closed = closed_part s made nodes closed

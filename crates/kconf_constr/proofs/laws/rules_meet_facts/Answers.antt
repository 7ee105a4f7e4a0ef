use Rattle.kconf_constr.proofs.StandLaws.{rules_meet}
use Rattle.kconf_constr.proofs.laws.rules_meet_facts.Goals as goal

pub returns : goal.returns
returns a s made c covered rules = rules_meet s made c covered rules

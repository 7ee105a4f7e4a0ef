use Rattle.kconf_statements.proofs.FormedLaws.{choices_there}
use Rattle.kconf_statements.proofs.laws.named_choices_exist.Goals as goal

pub returns : goal.returns
returns c = choices_there

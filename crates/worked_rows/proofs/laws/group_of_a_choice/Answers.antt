use Rattle.worked_rows.proofs.Groups.{choice_group}
use Rattle.worked_rows.proofs.laws.group_of_a_choice.Goals as goal

pub returns : goal.returns
returns c = choice_group

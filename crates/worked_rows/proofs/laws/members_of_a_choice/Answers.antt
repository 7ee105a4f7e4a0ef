use Rattle.worked_rows.proofs.Choosing.{together_first, together_second}
use Rattle.worked_rows.proofs.laws.members_of_a_choice.Goals as goal

pub returns-clause-live : goal.returns-clause-live
returns-clause-live c = together_first

pub returns-clause-dead : goal.returns-clause-dead
returns-clause-dead c = together_second

use Rattle.worked_rows.proofs.ByModel.{model_first, model_second}
use Rattle.worked_rows.proofs.laws.model_text.Goals as goal

pub returns-clause-live : goal.returns-clause-live
returns-clause-live c = model_first

pub returns-clause-dead : goal.returns-clause-dead
returns-clause-dead c = model_second

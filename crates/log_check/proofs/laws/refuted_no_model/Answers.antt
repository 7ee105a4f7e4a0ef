use Rattle.log_check.proofs.Soundness as soundness
use Rattle.log_check.proofs.laws.refuted_no_model.Goals as goal

pub returns : goal.returns
returns c = soundness.refuted_no_model

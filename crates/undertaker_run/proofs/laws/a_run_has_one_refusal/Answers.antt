use Rattle.undertaker_run.proofs.EndLaws.{one_refusal}
use Rattle.undertaker_run.proofs.laws.a_run_has_one_refusal.Goals as goal

pub returns : goal.returns
returns c = one_refusal

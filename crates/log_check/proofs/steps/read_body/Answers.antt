use Rattle.log_check.proofs.StepLaws.{body_chain}
use Rattle.log_check.proofs.steps.read_body.Goals as goal

pub returns-in_default-2 : goal.returns-in_default-2
returns-in_default-2 c = λ line h.
    let none = rw c.in_default-2.is at c.in_ok-chain.ensures in
    none line.chain (body_chain _ _ _ line (rw c.in-Some.is at c.in_ok-result.ensures) h)

use Rattle.log_check.proofs.StepLaws.{chain_splits, chain_pairs}
use Rattle.log_check.proofs.steps.read_chain.Goals as goal

pub returns-in_default : goal.returns-in_default
returns-in_default c = λ chain h. c.in_default.ensures.none chain.first _ (chain_splits _ chain h)

pub returns-in_default-2 : goal.returns-in_default-2
returns-in_default-2 c = λ chain h.
    let none = rw c.in_default-2.is at c.in_ok-pairs.ensures in
    none chain.pairs (chain_pairs _ _ _ chain c.in-Some.ensures.found h)

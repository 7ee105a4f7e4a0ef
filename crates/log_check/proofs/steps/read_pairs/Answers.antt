use Rattle.std.proofs.lemmas.Bool.{false≢true}
use Rattle.log_check.proofs.StepLaws.{no_pairs}
use Rattle.log_check.proofs.steps.read_pairs.Goals as goal

pub returns-in_default : goal.returns-in_default
returns-in_default c =
    no_pairs _ _ _ c.loop-cursor.invariant.text c.loop-cursor.invariant.fit c.loop-cursor.invariant.ends
    (λ end. false≢true (c.loop-cursor-test.ensures.1 end)) c.in_default.ensures.none

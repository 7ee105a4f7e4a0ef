use Rattle.std.proofs.lemmas.List.Elements.{All-more}
use Rattle.log_check.specs.DerivationText.{IsPair}
use Rattle.log_check.proofs.TextLaws.{chain_written}
use Rattle.log_check.proofs.writing.push_chain.Goals as goal

pub loop-pair-preserved : goal.loop-pair-preserved
loop-pair-preserved c = record {
  text = chain_written _ _ _ _ _ _ _ c.loop-pair-test.true c.loop-pair.invariant.text c.in_ok-push_pair.ensures.text;
  fit = All-more IsPair _ _ _ c.loop-pair-test.true c.loop-pair.invariant.fit c.in_ok-push_pair.ensures.fits;
}

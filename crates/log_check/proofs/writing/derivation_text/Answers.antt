use Rattle.std.proofs.Common.{arith, subst}
use Rattle.std.proofs.lemmas.List.Elements.{All-more}
use Rattle.log_check.specs.DerivationText.{IsPrintable}
use Rattle.log_check.proofs.TextLaws.{text_step}
use Rattle.log_check.proofs.writing.derivation_text.Goals as goal

pub loop-at-preserved : goal.loop-at-preserved
loop-at-preserved c = record {
  text = rw (c.in_ok-extend_from_slice.ensures.items, c.in_ok-push_step.ensures.text, c.loop-at.invariant.text) (text_step _ _ _ _ _ c.loop-at-test.true c.index-lines-at.is (omega arith));
  last = omega (arith, c.in_ok-push_step.ensures.grammar.fits);
  printable = All-more IsPrintable _ _ c.index-lines-at.result c.loop-at-test.true c.loop-at.invariant.printable
      (subst IsPrintable c.index-lines-at.is c.in_ok-push_step.ensures.grammar.printable);
}

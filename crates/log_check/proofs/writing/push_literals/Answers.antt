use Rattle.std.proofs.Common.{◌^◌, ◌<◌}
use Rattle.std.proofs.lemmas.List.Elements.{All-more}
use Rattle.ut_logic.specs.declared.literals.Lit.{Lit}
use Rattle.log_check.specs.DerivationText.{literal_text}
use Rattle.line_texts.proofs.ListTexts.{element_written}
use Rattle.log_check.proofs.writing.push_literals.Goals as goal

pub loop-lit-preserved : goal.loop-lit-preserved
loop-lit-preserved c = record {
  text = element_written literal_text _ _ _ _ _ _ c.loop-lit-test.true c.loop-lit.invariant.text c.in_ok-push_literal.ensures.text;
  fit = All-more (λ (x : Lit). x.var < 2 ^ 64) _ _ _ c.loop-lit-test.true c.loop-lit.invariant.fit c.in_ok-push_literal.ensures.fits;
}

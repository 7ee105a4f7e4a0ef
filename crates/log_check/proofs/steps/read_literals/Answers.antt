use Rattle.std.proofs.Common.{◌<◌}
use Rattle.std.proofs.lemmas.Bool.{false≢true}
use Rattle.std.proofs.lemmas.List.Elements.{All-push}
use Rattle.std.proofs.lemmas.List.Quantifiers.{all_pairs_push}
use Rattle.line_texts.proofs.ListTexts.{text_more}
use Rattle.ut_logic.specs.declared.literals.Lit.{Lit}
use Rattle.log_check.specs.DerivationText.{literal_text, IsVariable}
use Rattle.log_check.proofs.StepLaws.{no_literals, no_order}
use Rattle.log_check.proofs.steps.read_literals.Goals as goal

pub returns-in_default : goal.returns-in_default
returns-in_default c =
    no_literals _ _ _ c.loop-cursor.invariant.text c.loop-cursor.invariant.variables c.loop-cursor-test.ensures.other
    (rw c.loop-cursor-test.ensures.stays at c.in_default.ensures.none)

pub returns-then-not-comes_after : goal.returns-then-not-comes_after
returns-then-not-comes_after c =
    no_order _ _ _ _ _ c.loop-cursor.invariant.text c.loop-cursor.invariant.variables c.loop-cursor-test.ensures.other
    (rw c.loop-cursor-test.ensures.stays at c.in-Some.ensures.found)
    (λ all. false≢true (c.if-not-comes_after.ensures.1 (rw c.as_slice.ensures.value all)))

pub loop-cursor-preserved : goal.loop-cursor-preserved
loop-cursor-preserved c =
    let after = rw c.as_slice.ensures.value at (c.comes_after.ensures.0 c.if-not-comes_after.false) in
    rw c.in_ok-push.ensures.items (record {
      text = text_more literal_text _ _ _ _ _ c.loop-cursor.invariant.text (rw c.loop-cursor-test.ensures.stays at c.in-Some.ensures.found.text);
      ordered = all_pairs_push (λ (a b : Lit). a.var < b.var) _ _ c.loop-cursor.invariant.ordered after;
      variables = All-push (λ (x : Lit). IsVariable x.var) _ _ c.loop-cursor.invariant.variables c.in-Some.ensures.found.variable;
    })

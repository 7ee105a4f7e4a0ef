use Rattle.std.proofs.Common.{◌+◌, arith}
use Rattle.std.proofs.lemmas.List.{take_all}
use Rattle.std.proofs.lemmas.List.Elements.{All-more, All-same}
use Rattle.std.proofs.Common.{◌≤◌, length, subst, sym, ◌∙◌}
use Rattle.log_check.specs.DerivationText.{IsPrintable}
use Rattle.report_lines.proofs.TextLaws.{steps_on}
use Rattle.report_lines.proofs.steps.push_steps.Goals as goal

pub loop-at-preserved : goal.loop-at-preserved
loop-at-preserved c = record {
  text = steps_on _ _ _ _ (c.args.clauses + 1) c.loop-at.at c.as_slice-lines.result.now c.index-lines-at.result c.loop-at-test.true c.index-lines-at.is
      c.in_ok-push_step.ensures.text c.in_ok-extend_from_slice.ensures.items c.loop-at.invariant.text;
  last = omega (arith, c.in_ok-push_step.ensures.grammar.fits);
  printable = All-more IsPrintable _ _ c.index-lines-at.result c.loop-at-test.true c.loop-at.invariant.printable
      (subst IsPrintable c.index-lines-at.is c.in_ok-push_step.ensures.grammar.printable);
}

pub returns-clause-printable : goal.returns-clause-printable
returns-clause-printable c =
    let le : length c.as_slice-lines.result.now ≤ c.loop-at.at = c.loop-at-test.false in
    All-same IsPrintable c.args.derivation.now.lines _ (sym (take_all c.loop-at.at c.as_slice-lines.result.now le ∙ c.as_slice-lines.ensures)) c.loop-at.invariant.printable

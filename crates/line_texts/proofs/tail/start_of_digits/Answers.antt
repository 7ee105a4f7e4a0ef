use Rattle.std.proofs.Common.{◌∙◌, sym}
use Rattle.line_texts.proofs.TailLaws.{ends_before}
use Rattle.line_texts.proofs.tail.start_of_digits.Goals as goal

pub returns-then-not-is_digit-clause-before : goal.returns-then-not-is_digit-clause-before
returns-then-not-is_digit-clause-before c =
    ends_before c.args.text.now c.loop-start.start c.loop-start-test.true c.loop-start.invariant.within ∙ sym c.is_digit.ensures ∙ c.if-not-is_digit.true

use Rattle.line_texts.proofs.TailLaws.{number_after_none}
use Rattle.line_texts.proofs.tail.Tail.number.Goals as goal

pub returns-in_err-number-clause-none : goal.returns-in_err-number-clause-none
returns-in_err-number-clause-none c =
    rw (c.from_residual.ensures, ← c.self.view_is)
    (number_after_none _ _ c.start_of_digits.result c.split_at.ensures.back c.start_of_digits.ensures.digits c.start_of_digits.ensures.before c.in_err-number.ensures.none)

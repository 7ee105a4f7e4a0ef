use Rattle.log_check.proofs.PieceLaws.{literal_no_number, literal_no_zero, literal_no_blank}
use Rattle.log_check.proofs.pieces.read_literal.Goals as goal

pub returns-in_err-var-clause-none : goal.returns-in_err-var-clause-none
returns-in_err-var-clause-none c = rw c.from_residual.ensures (literal_no_number _ _ _ c.read_sign-positive.ensures c.in_err-var.ensures.none)

pub returns-then-var-eq0-clause-none : goal.returns-then-var-eq0-clause-none
returns-then-var-eq0-clause-none c = literal_no_zero _ _ _ _ _ c.read_sign-positive.ensures c.in_ok-var.ensures.found c.if-var-eq0.true

pub returns-then-not-word-clause-none : goal.returns-then-not-word-clause-none
returns-then-not-word-clause-none c = literal_no_blank _ _ _ _ _ c.read_sign-positive.ensures c.in_ok-var.ensures.found c.if-not-word.ensures.other

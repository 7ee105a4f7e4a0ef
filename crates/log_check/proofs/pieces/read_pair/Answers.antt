use Rattle.log_check.proofs.PieceLaws.{pair_no_blank, pair_no_clause}
use Rattle.log_check.proofs.pieces.read_pair.Goals as goal

pub returns-then-not-word-2-clause-none : goal.returns-then-not-word-2-clause-none
returns-then-not-word-2-clause-none c = pair_no_blank _ _ _ _ c.if-not-word.ensures.passed c.in_ok-pivot.ensures.found c.if-not-word-2.ensures.other

pub returns-in_err-clause-clause-none : goal.returns-in_err-clause-clause-none
returns-in_err-clause-clause-none c =
    rw c.from_residual-in_err-clause.ensures
    (pair_no_clause _ _ _ _ _ c.if-not-word.ensures.passed c.in_ok-pivot.ensures.found c.if-not-word-2.ensures.passed c.in_err-clause.ensures.none)

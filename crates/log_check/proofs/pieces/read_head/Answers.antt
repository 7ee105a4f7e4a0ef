use Rattle.log_check.proofs.PieceLaws.{head_no_word}
use Rattle.log_check.proofs.pieces.read_head.Goals as goal

pub returns-then-not-word-2-clause-none : goal.returns-then-not-word-2-clause-none
returns-then-not-word-2-clause-none c =
    head_no_word _ _ _ _ c.if-not-word.ensures.passed c.in_ok-number.ensures.found c.if-not-word-2.ensures.other

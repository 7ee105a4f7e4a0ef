use Rattle.std.proofs.Common.{◌≡◌, ◌∙◌, rules}
use Rattle.ut_words.proofs.NumberLaws.{third_fails, numbers_are}
use Rattle.ut_words.proofs.numbers.numbers_in.Goals as goal

pub returns-in_err-size : goal.returns-in_err-size
returns-in_err-size c = λ said reads.
    c.from_residual-in_err-size.ensures
    ∙ third_fails _ _ _ _ _ _ _ _ _ (c.in_ok-workers.ensures.value said reads) (c.in_ok-steps.ensures.value said reads) (c.in_err-size.ensures.value said reads)

pub returns : goal.returns
returns c = λ said reads.
    let size : c.map.result ≡ c.in_ok-size.size = search rules in
    numbers_are said c.in_ok-workers.workers c.in_ok-steps.steps c.in_ok-size.size c.unwrap_or.result c.unwrap_or-2.result c.map.result
    c.unwrap_or.ensures c.unwrap_or-2.ensures size
    (c.in_ok-workers.ensures.value said reads) (c.in_ok-steps.ensures.value said reads) (c.in_ok-size.ensures.value said reads)

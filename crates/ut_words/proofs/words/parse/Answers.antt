use Rattle.std.proofs.Common.{◌∙◌, ap, map}
use Rattle.ut_words.specs.Words.{order_of}
use Rattle.ut_words.proofs.Answering.{answers_words, ok_of, usage_of}
use Rattle.ut_words.proofs.words.parse.Goals as goal

pub returns-clause-order : goal.returns-clause-order
returns-clause-order c =
    ok_of c.order_in.result (order_of c.args.words.now)
    (answers_words c.args.words.now (map (λ t. t.now) c.as_slice.result.now) c.order_in.result c.in_ok-matches.matches (ap (map (λ t. t.now)) c.as_slice.ensures.value ∙ c.in_ok-texts.ensures.same)
    c.in_ok-matches.ensures c.order_in.ensures)

pub returns-clause-usage : goal.returns-clause-usage
returns-clause-usage c =
    usage_of c.order_in.result (order_of c.args.words.now)
    (answers_words c.args.words.now (map (λ t. t.now) c.as_slice.result.now) c.order_in.result c.in_ok-matches.matches (ap (map (λ t. t.now)) c.as_slice.ensures.value ∙ c.in_ok-texts.ensures.same)
    c.in_ok-matches.ensures c.order_in.ensures)

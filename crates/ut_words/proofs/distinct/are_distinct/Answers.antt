use Rattle.std.proofs.Common.{◌∙◌, sym, arith, rules}
use Rattle.ut_words.proofs.DistinctLaws.{distinct_at_start, distinct_more, distinct_fails, distinct_at_end}
use Rattle.ut_words.proofs.distinct.are_distinct.Goals as goal

pub loop-text-init : goal.loop-text-init
loop-text-init c = distinct_at_start c.args.texts.now c.new-seen.result.keys (search rules)

pub returns-then-not-branch : goal.returns-then-not-branch
returns-then-not-branch c =
    distinct_fails c.args.texts.now c.loop-text.text-index c.loop-text.seen.keys _ (omega arith) (sym c.in_ok-is_new.ensures.new ∙ c.if-not-branch.true) c.loop-text.invariant

pub loop-text-preserved : goal.loop-text-preserved
loop-text-preserved c =
    distinct_more c.args.texts.now c.loop-text.text-index c.loop-text.seen.keys c.is_new.new.seen.keys _ (omega arith) c.in_ok-is_new.field-0 c.if-not-branch.false c.in_ok-is_new.ensures.new c.in_ok-is_new.ensures.seen c.loop-text.invariant

pub returns : goal.returns
returns c = distinct_at_end c.args.texts.now c.loop-text.text-index c.loop-text.seen.keys (omega arith) c.loop-text.invariant

use Rattle.ut_words.proofs.ListLaws.{not_text, not_wish, skipped_taken, wish_taken}
use Rattle.ut_words.proofs.lists.KeptLines.take.Goals as goal

pub returns-then-is_skipped-clause-taken : goal.returns-then-is_skipped-clause-taken
returns-then-is_skipped-clause-taken c = λ e. skipped_taken c.args.kind _ _ c.args.line.now c.if-is_skipped.ensures

pub returns-in_default-clause-other : goal.returns-in_default-clause-other
returns-in_default-clause-other c = λ e. not_text c.args.kind _ _ c.args.line.now c.if-is_skipped.ensures c.in_default.ensures.cases.0

pub returns-in_default-2-clause-other : goal.returns-in_default-2-clause-other
returns-in_default-2-clause-other c = λ e. not_wish c.args.kind _ _ c.args.line.now c.if-is_skipped.ensures (rw c.in_default-2.is at c.in_ok-wish.ensures)

pub returns-clause-taken : goal.returns-clause-taken
returns-clause-taken c = λ e.
    wish_taken c.args.kind _ _ _ c.args.line.now c.in-Ok.text.now c.in-Some.wish c.if-is_skipped.ensures (rw c.in-Some.is at c.in_ok-wish.ensures) c.in-Ok.ensures.cases.0 c.in_ok-keep.ensures

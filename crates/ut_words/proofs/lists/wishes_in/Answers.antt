use Rattle.std.proofs.Common.{◌≡◌, arith, subst}
use Rattle.line_texts.proofs.GrammarLaws.{continues_after, outside_here}
use Rattle.ut_words.specs.Lists.{IsFirstOutside}
use Rattle.ut_words.proofs.ListLaws.{one_more}
use Rattle.ut_words.proofs.lists.wishes_in.Goals as goal

pub returns-then-not-branch-clause-line : goal.returns-then-not-branch-clause-line
returns-then-not-branch-clause-line c = λ number e.
    let same : c.loop-rest.number ≡ number = cc in
    subst (IsFirstOutside c.args.kind c.args.bytes.now) same
    (outside_here c.loop-rest.invariant.reads _ _ c.split_line.ensures.lines (c.in_ok-take.ensures.other c.if-not-branch.true))

pub loop-rest-preserved : goal.loop-rest-preserved
loop-rest-preserved c =
    let taken = c.in_ok-take.ensures.taken c.if-not-branch.false in
    record {
      reads = continues_after c.loop-rest.invariant.reads _ _ _ c.split_line.ensures.lines taken;
      few = omega (arith, c.loop-rest.invariant.few, one_more _ _ _ _ _ taken);
      room = omega (arith, c.loop-rest.invariant.room, c.split_line.ensures.shorter);
    }

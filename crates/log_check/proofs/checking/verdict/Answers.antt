use Rattle.log_check.proofs.Deriving.{right_more, wrong_here, not_right, results_more}
use Rattle.log_check.proofs.checking.verdict.Goals as goal

pub returns-then-not-branch : goal.returns-then-not-branch
returns-then-not-branch c =
    wrong_here _ _ _ c.loop-at-test.true c.loop-at.invariant.right
    (not_right _ _ _ _ _ c.loop-at-test.true c.index-lines-at.is (rw c.loop-at.invariant.taken at c.in_ok-take.ensures.given) c.if-not-branch.true)

pub loop-at-preserved : goal.loop-at-preserved
loop-at-preserved c =
    let given = rw c.loop-at.invariant.taken at c.in_ok-take.ensures.given in
    record {
      right = right_more _ _ _ _ c.loop-at-test.true c.index-lines-at.is c.loop-at.invariant.right (given.0 c.if-not-branch.false);
      taken = results_more _ _ _ _ _ c.loop-at-test.true c.index-lines-at.is c.loop-at.invariant.taken (rw c.if-not-branch.false at c.in_ok-take.ensures.added);
    }

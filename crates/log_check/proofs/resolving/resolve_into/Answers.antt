use Rattle.std.proofs.Common.{arith}
use Rattle.log_check.proofs.Merging.{grow_left, grow_right, grow_both, skip_both, lone_left, lone_right, unlike, clash, met_now, met_more, merged_all}
use Rattle.log_check.proofs.resolving.resolve_into.Goals as goal

pub returns-then-a-i : goal.returns-then-a-i
returns-then-a-i c = lone_left _ _ _ _ _ _ _ c.requires.right c.loop-i.invariant.merged c.in-Left.ensures c.if-a-i.true

pub loop-i-preserved-in-Left : goal.loop-i-preserved-in-Left
loop-i-preserved-in-Left c = record {
  merged = rw c.in_ok-push-in-Left.ensures.items (grow_left _ _ _ _ _ _ _ c.requires.left c.loop-i.invariant.merged c.in-Left.ensures c.if-a-i.false);
  met = met_more _ _ _ _ _ _ c.in-Left.ensures.0 c.if-a-i.false c.loop-i.invariant.met;
}

pub returns-then-b-j : goal.returns-then-b-j
returns-then-b-j c = lone_right _ _ _ _ _ _ _ c.requires.left c.loop-i.invariant.merged c.in-Right.ensures c.if-b-j.true

pub loop-i-preserved-in-Right : goal.loop-i-preserved-in-Right
loop-i-preserved-in-Right c = record {
  merged = rw c.in_ok-push-in-Right.ensures.items (grow_right _ _ _ _ _ _ _ c.requires.right c.loop-i.invariant.merged c.in-Right.ensures c.if-b-j.false);
  met = c.loop-i.invariant.met;
}

pub returns-then-a-i-2 : goal.returns-then-a-i-2
returns-then-a-i-2 c = unlike _ _ _ _ _ _ c.requires.left c.requires.right c.in-Same.ensures c.if-a-i-2.true

pub loop-i-preserved-in-Same : goal.loop-i-preserved-in-Same
loop-i-preserved-in-Same c = record {
  merged = rw c.in_ok-push-in-Same.ensures.items (grow_both _ _ _ _ _ _ _ c.requires.left c.requires.right c.loop-i.invariant.merged c.in-Same.ensures c.if-a-i-2.false);
  met = met_more _ _ _ _ _ _ c.in-Same.ensures.0 c.if-a-i-2.false c.loop-i.invariant.met;
}

pub returns-then-a-i-3 : goal.returns-then-a-i-3
returns-then-a-i-3 c = clash _ _ _ _ _ _ c.in-Opposite.ensures c.if-a-i-3.true

pub loop-i-preserved : goal.loop-i-preserved
loop-i-preserved c = record {
  merged = skip_both _ _ _ _ _ _ _ c.requires.left c.requires.right c.loop-i.invariant.merged c.in-Opposite.ensures c.if-a-i-3.false;
  met = met_now _ _ _ _ _ _ c.in-Opposite.ensures c.if-a-i-3.false;
}

pub returns : goal.returns
returns c = merged_all _ _ _ _ _ _ _ c.requires.left c.requires.right (omega arith) (omega arith) c.loop-i.invariant.merged c.loop-i.invariant.met

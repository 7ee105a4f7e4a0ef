use Rattle.std.proofs.Common.{arith}
use Rattle.sat_log.proofs.PlaceLoops.{cut_start, cut_found, cut_back, cut_at_bound}
use Rattle.sat_log.proofs.cutting.cut_behind.Goals as goal

pub loop-cut-init : goal.loop-cut-init
loop-cut-init c =
    let s = c.requires.some in
    let at = cut_start _ _ c.requires.latest _ s.0 s.1 s.2 s.3 in
    record { low = at.1; high = at.2; decided = at.3 }

pub returns-then-before-bound : goal.returns-then-before-bound
returns-then-before-bound c = cut_found _ _ c.requires.latest _ _ c.loop-cut-test.true c.loop-cut.invariant.high c.loop-cut.invariant.decided c.if-before-bound.true

pub loop-cut-preserved : goal.loop-cut-preserved
loop-cut-preserved c =
    let at = cut_back _ _ c.requires.latest _ _ c.loop-cut-test.true c.loop-cut.invariant.high c.if-before-bound.false in
    record { low = at.0; high = omega (arith, at.1, c.loop-cut.invariant.high); decided = at.2 }

pub returns : goal.returns
returns c = cut_at_bound _ _ c.requires.latest _ _ c.loop-cut.invariant.low c.loop-cut-test.false c.loop-cut.invariant.high c.loop-cut.invariant.decided

pub overflow_sub-cut-2 : goal.overflow_sub-cut-2
overflow_sub-cut-2 c =
    let s = c.requires.some in
    (cut_start _ _ c.requires.latest _ s.0 s.1 s.2 s.3).0

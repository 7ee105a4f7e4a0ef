use Rattle.std.proofs.Common.{◌≡◌, ◌≤◌, length, arith}
use Rattle.sat_log.proofs.PlaceLoops.{two_first, two_more, two_done}
use Rattle.sat_log.proofs.cutting.latest_two.Goals as goal

pub loop-i-init : goal.loop-i-init
loop-i-init c = record { in_range = omega arith; two = two_first _ _ _ _ _ _ c.requires.some c.behind.ensures.behind }

pub loop-i-preserved : goal.loop-i-preserved
loop-i-preserved c = record {
  in_range = omega arith;
  two = two_more _ _ _ _ _ _ _ _ _ c.loop-i-test.true c.behind-in-loop-i.ensures.behind c.loop-i.invariant.two c.with-found.ensures.last c.with-found.ensures.second c.with-found.ensures.neither;
}

pub returns : goal.returns
returns c = two_done _ _ _ _ _ _ (let low : c.loop-i.i ≤ length c.args.lits.now = c.loop-i.invariant.in_range in omega (arith, c.loop-i-test.false)) c.loop-i.invariant.two

use Rattle.std.proofs.Common.{refl}
use Rattle.sat_log.proofs.Clearing.{cleared_none, cleared_more, cleared_all}
use Rattle.sat_log.proofs.values.clear.Goals as goal

pub loop-i-init : goal.loop-i-init
loop-i-init c = record { len = refl; cleared = cleared_none _ _ _ _ c.requires.apart c.requires.values }

pub loop-i-preserved : goal.loop-i-preserved
loop-i-preserved c =
    let w = c.requires.vars c.loop-i.i _ c.loop-i-test.true in
    record { len = c.loop-i.invariant.len; cleared = cleared_more _ _ _ _ _ _ c.loop-i-test.true w.0 w.1 c.loop-i.invariant.cleared }

pub returns : goal.returns
returns c = cleared_all _ _ _ _ _ c.loop-i-test.false c.loop-i.invariant.cleared

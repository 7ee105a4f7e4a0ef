use Rattle.std.proofs.Common.{refl}
use Rattle.sat_log.proofs.PlaceLoops.{counted_step}
use Rattle.sat_log.proofs.analysis.is_alone.Goals as goal

pub loop-lit-preserved : goal.loop-lit-preserved
loop-lit-preserved c =
    counted_step c.args.lits.now c.args.at.now c.args.from c.loop-lit.lit-index c.loop-lit.count _ c.loop-lit-test.true c.loop-lit.invariant _ _ refl c.counted-count.ensures.more c.counted-count.ensures.same

use Rattle.sat_log.proofs.PlaceLoops.{latest_none, latest_more, latest_done}
use Rattle.sat_log.proofs.analysis.latest_place.Goals as goal

pub loop-lit-init : goal.loop-lit-init
loop-lit-init c = latest_none c.args.lits.now c.args.at.now

pub loop-lit-preserved : goal.loop-lit-preserved
loop-lit-preserved c =
    latest_more c.args.lits.now c.args.at.now c.loop-lit.lit-index c.loop-lit.place _ c.loop-lit-test.true c.loop-lit.invariant _ c.later-place.ensures.first c.later-place.ensures.second

pub returns : goal.returns
returns c = latest_done c.args.lits.now c.args.at.now _ _ c.loop-lit-test.false c.loop-lit.invariant

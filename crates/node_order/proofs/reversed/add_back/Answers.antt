use Rattle.std.proofs.Common.{arith}
use Rattle.std.proofs.lemmas.List.{take_more}
use Rattle.node_order.proofs.GraphLaws.{adds_none, adds_more}
use Rattle.node_order.proofs.reversed.add_back.Goals as goal

pub loop-from-init : goal.loop-from-init
loop-from-init c = adds_none _ _

pub add-requires : goal.add-requires
add-requires c =
    let count = c.loop-from.invariant.count in
    record { from = omega (arith, c.requires.nodes c.loop-from.from-index 0 c.loop-from-test.true); to = omega arith }

pub loop-from-preserved : goal.loop-from-preserved
loop-from-preserved c =
    let count = c.loop-from.invariant.count in
    rw (c.in_ok-add.ensures.ok, take_more c.args.nodes.now c.loop-from.from-index 0 c.loop-from-test.true)
    (adds_more _ _ _ _ _ (omega (arith, c.requires.nodes c.loop-from.from-index 0 c.loop-from-test.true)) c.loop-from.invariant)

use Rattle.std.proofs.Common.{arith}
use Rattle.std.proofs.lemmas.List.{take_more}
use Rattle.node_order.proofs.LayerLaws.{adds_nothing, adds_then}
use Rattle.node_order.proofs.distance.add_new.Goals as goal

pub loop-node-init : goal.loop-node-init
loop-node-init c = adds_nothing _ _ _

pub add_one-requires : goal.add_one-requires
add_one-requires c = omega (arith, c.requires c.loop-node.node-index 0 c.loop-node-test.true, c.loop-node.invariant.count, c.loop-node.found.ok.0, c.args.found.now.ok.0)

pub loop-node-preserved : goal.loop-node-preserved
loop-node-preserved c = rw (take_more c.args.nodes.now c.loop-node.node-index 0 c.loop-node-test.true) (adds_then _ _ _ _ _ _ _ _ _ c.loop-node.invariant c.in_ok-add_one.ensures)

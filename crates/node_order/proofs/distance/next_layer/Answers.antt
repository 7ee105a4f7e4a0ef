use Rattle.std.proofs.Common.{take, arith}
use Rattle.std.proofs.lemmas.List.{take_more, append-nil}
use Rattle.std.proofs.lemmas.List.Concat.{flat_map-append}
use Rattle.node_order.specs.Graph.{refers_of}
use Rattle.node_order.proofs.LayerLaws.{adds_nothing, adds_then}
use Rattle.node_order.proofs.distance.next_layer.Goals as goal

pub loop-node-init : goal.loop-node-init
loop-node-init c = rw c.new-next.ensures.items (adds_nothing _ _ _)

pub add_new-requires : goal.add_new-requires
add_new-requires c = λ k d h. omega (arith, c.refers.ensures.within k d h, c.loop-node.invariant.count, c.requires.count, c.loop-node.found.ok.0, c.args.found.now.ok.0)

pub loop-node-preserved : goal.loop-node-preserved
loop-node-preserved c =
    let nodes = c.refers.ensures.nodes in
    let both = adds_then _ _ _ _ _ _ _ _ _ c.loop-node.invariant c.in_ok-add_new.ensures in
    rw (take_more c.args.layer.now c.loop-node.node-index 0 c.loop-node-test.true, flat_map-append (refers_of c.args.graph.now) (take c.loop-node.node-index c.args.layer.now) _, append-nil _, ← nodes) both

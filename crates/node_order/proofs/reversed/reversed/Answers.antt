use Rattle.std.proofs.Common.{arith}
use Rattle.node_order.proofs.GraphLaws.{turns_none, turns_more, turns_all}
use Rattle.node_order.proofs.reversed.reversed.Goals as goal

pub loop-node-init : goal.loop-node-init
loop-node-init c = rw (c.in_ok-back.ensures, c.len.ensures.count) (turns_none _)

pub add_back-requires : goal.add_back-requires
add_back-requires c =
    let count = c.loop-node.invariant.count in
    record {
      node = omega arith;
      nodes = rw count c.refers.ensures.within;
    }

pub loop-node-preserved : goal.loop-node-preserved
loop-node-preserved c = turns_more _ _ _ _ c.loop-node.invariant (rw c.refers.ensures.nodes at c.in_ok-add_back.ensures)

pub returns : goal.returns
returns c = turns_all _ _ _ (omega arith) c.loop-node.invariant

use Rattle.std.proofs.Common.{arith}
use Rattle.node_order.proofs.RisingLaws.{added_below}
use Rattle.node_order.proofs.parts.number_part.Goals as goal

pub loop-alloc-init : goal.loop-alloc-init
loop-alloc-init c = let adds = rw c.new-layer.ensures.items at c.in_ok-add_one.ensures in record {
  count = omega (arith, adds.count, c.requires.count, c.args.numbers.now.ok.0);
  layer = λ k d l. omega (arith, added_below _ _ _ _ _ adds k d l, c.requires.count, c.args.numbers.now.ok.0);
}

pub loop-alloc-preserved : goal.loop-alloc-preserved
loop-alloc-preserved c = let adds = c.in_ok-layer.ensures in record {
  count = omega (arith, adds.count, c.loop-alloc.invariant.count);
  layer = λ k d l. omega (arith, added_below _ _ _ _ _ adds k d l, c.loop-alloc.invariant.count);
}

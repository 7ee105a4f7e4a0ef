use Rattle.std.proofs.Common.{ℕ, List, Option, subst, arith}
use Rattle.std.proofs.lemmas.Bool.{OnTrue_at}
use Rattle.node_order.specs.Rising.{NeverFall, RisesFrom}
use Rattle.node_order.proofs.ReturnLaws.{some_below, none_below_more}
use Rattle.node_order.proofs.RisingLaws.{off_cycles}
use Rattle.node_order.proofs.first_on_cycle.first_on_cycle.Goals as goal

pub loop-node-preserved-then-rises_from : goal.loop-node-preserved-then-rises_from
loop-node-preserved-then-rises_from c = let g = c.args.graph.now in let node = c.loop-node.node in
    none_below_more g node c.loop-node.invariant (off_cycles g c.in_ok-numbers.numbers.items
    (subst (λ (ns : List (Option ℕ)). NeverFall g ns) c.as_slice.ensures.value (OnTrue_at c.if-never_falls.true c.never_fall-never_falls.ensures)) node
    (subst (λ (ns : List (Option ℕ)). RisesFrom g ns node) c.as_slice-then-never_falls.ensures.value (OnTrue_at c.if-rises_from.true c.rises_from.ensures)))

pub unreachable-requires : goal.unreachable-requires
unreachable-requires c = some_below _ _ c.requires.cycle (omega arith) c.loop-node.invariant

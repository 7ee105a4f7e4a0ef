use Rattle.std.proofs.Common.{subst, arith}
use Rattle.node_order.specs.declared.search.Step.{Step}
use Rattle.node_order.specs.Searching.{FindsCycle, MatchStep, Visits}
use Rattle.node_order.proofs.WalkLaws.{no_order}
use Rattle.node_order.proofs.StepLaws.{orders_none, orders_more, orders_all}
use Rattle.node_order.proofs.order.ordered.Goals as goal

pub loop-root-init : goal.loop-root-init
loop-root-init c = orders_none _ _ c.in_ok-search.ensures.search c.in_ok-search.ensures.path

pub returns-in-Closes-clause-no_order : goal.returns-in-Closes-clause-no_order
returns-in-Closes-clause-no_order c = λ nodes e (order, o). no_order _ _ order c.in_ok-nodes-in-Closes.ensures.cycle o

pub loop-root-preserved : goal.loop-root-preserved
loop-root-preserved c = orders_more _ _ _ _ c.loop-root.invariant
    (subst (λ (step : Step). MatchStep step (Visits c.args.graph.now c.loop-root.root c.loop-root.search c.visit.new.self) (FindsCycle c.args.graph.now c.visit.new.self)) c.in-Goes.is c.in_ok-visit.ensures)

pub returns-clause-order : goal.returns-clause-order
returns-clause-order c = orders_all c.args.graph.now c.loop-root.root c.loop-root.search (omega (arith, c.loop-root-test.false, c.len-root-end.ensures.count)) c.loop-root.invariant

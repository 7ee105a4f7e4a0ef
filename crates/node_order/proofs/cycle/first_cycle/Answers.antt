use Rattle.std.proofs.lemmas.Result.{IfOk-weaker}
use Rattle.node_order.specs.Graph.{IsFirstCycle}
use Rattle.node_order.specs.Returns.{Returns}
use Rattle.node_order.proofs.ReturnLaws.{first_from_return}
use Rattle.node_order.proofs.cycle.first_cycle.Goals as goal

pub returns : goal.returns
returns c = let g = c.args.graph.now in IfOk-weaker c.least_cycle.result (λ nodes. Returns g c.in_ok-node.node nodes.items) (λ nodes. IsFirstCycle g nodes.items)
    (λ nodes r. first_from_return g c.in_ok-node.node nodes.items c.in_ok-node.ensures.first r) c.least_cycle.ensures

use Rattle.std.proofs.Common.{ap, sym, ◌∙◌, map}
use Rattle.node_order.proofs.ReturnLaws.{one_first_cycle}
use Rattle.kconf_tree.specs.Orders.{graph_of, node_at}
use Rattle.kconf_tree.proofs.laws.first_cycle_is_one.Goals as goal

pub returns : goal.returns
returns c = λ t a b p q. p.listed ∙ (ap (map (node_at t)) (one_first_cycle (graph_of t) p.numbers q.numbers p.first q.first) ∙ sym q.listed)

use Rattle.std.proofs.Common.{Err, sym, ap, subst, ◌∙◌, map, get_or}
use Rattle.ut_logic.specs.declared.node.Node.TheVariants.{Sym}
use Rattle.node_order.specs.Graph.{HasOrder, IsFirstCycle}
use Rattle.kconf_tree.proofs.parts.Parts.find_order.Goals as goal

pub returns-in-Err-Cycle-clause-cycle : goal.returns-in-Err-Cycle-clause-cycle
returns-in-Err-Cycle-clause-cycle c = let places = c.in-Err-Cycle.places in let cyclic = c.in-Err-Cycle.is ∙ ap Err c.in-Err-Cycle.field-0-is in (
  λ accepted. c.ordered.ensures.no_order places cyclic (subst HasOrder (sym c.in_ok-graph.ensures) accepted),
  record {
    numbers = places.items;
    first = subst (λ g. IsFirstCycle g places.items) c.in_ok-graph.ensures (c.ordered.ensures.cycle places cyclic);
    listed = c.from_vec.ensures ∙ (c.in_ok-cycle-in-Err-Cycle.ensures ∙ (λ i. map (λ k. get_or (c.in_ok-found.ensures.nodes i) k (Sym 0)) (c.as_slice-in-Err-Cycle.ensures.value i)));
  },
)

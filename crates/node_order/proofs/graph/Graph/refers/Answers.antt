use Rattle.std.proofs.Common.{subst, ◌∙◌}
use Rattle.node_order.specs.Graph.{IsGraph}
use Rattle.node_order.proofs.GraphLaws.{all_within, list_at}
use Rattle.node_order.proofs.graph.Graph.refers.Goals as goal

pub returns-clause-within : goal.returns-clause-within
returns-clause-within c = rw (c.as_slice.ensures.value ∙ list_at _ _ _ _ c.self.view_is c.requires c.index.ensures) (all_within _ _ (subst IsGraph c.self.view_is c.self.invariant))

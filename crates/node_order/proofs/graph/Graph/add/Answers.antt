use Rattle.std.proofs.Common.{sym, subst}
use Rattle.std.proofs.lemmas.Result.{err_from_is_err_and}
use Rattle.node_order.specs.Graph.{IsGraph}
use Rattle.node_order.proofs.GraphLaws.{view_more, view_same, graph_more}
use Rattle.node_order.proofs.graph.Graph.add.Goals as goal

pub invariant_of-self : goal.invariant_of-self
invariant_of-self c = subst IsGraph (sym (view_same _ _ _ _ _ c.self.view_is c.requires.from c.index_mut.ensures.value c.in_err-push.ensures.items)) (subst IsGraph c.self.view_is c.self.invariant)

pub returns-in_err-push-clause-err : goal.returns-in_err-push-clause-err
returns-in_err-push-clause-err c = let p = err_from_is_err_and c.from_residual.result c.from_residual.ensures.1 in
    rw p.1 (view_same _ _ _ _ _ c.self.view_is c.requires.from c.index_mut.ensures.value c.in_err-push.ensures.items)

pub invariant_of-self-2 : goal.invariant_of-self-2
invariant_of-self-2 c = subst IsGraph (sym (view_more _ _ _ c.args.to _ _ c.self.view_is c.requires.from c.index_mut.ensures.value c.in_ok-push.ensures.items)) (graph_more _ _ c.args.to c.requires.from (subst IsGraph c.self.view_is c.self.invariant) c.requires.to)

pub returns-clause-ok : goal.returns-clause-ok
returns-clause-ok c = view_more _ _ _ c.args.to _ _ c.self.view_is c.requires.from c.index_mut.ensures.value c.in_ok-push.ensures.items

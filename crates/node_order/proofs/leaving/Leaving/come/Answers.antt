use Rattle.std.proofs.Common.{◌<◌, ◌++◌, ◌∙◌, ap, refl, length, map, arith}
use Rattle.std.proofs.lemmas.Result.{on_ok_weaker}
use Rattle.node_order.specs.declared.leaving.Turn.TheVariants.{Comes}
use Rattle.node_order.proofs.StepLaws.{mark_met}
use Rattle.node_order.proofs.LeavingLaws.{met_first}
use Rattle.node_order.proofs.leaving.Leaving.come.Goals as goal

pub returns-in_ok-push-in-New : goal.returns-in_ok-push-in-New
returns-in_ok-push-in-New c =
    let b : c.args.node < length c.args.self.now.marks.items = omega (arith, c.requires.node, c.requires.leaving.count) in
    on_ok_weaker c.add_each.result (λ h. met_first _ c.args.self.now _ c.args.node c.refers.result.now c.requires.leaving c.requires.node
    (mark_met _ _ _ _ b c.index.ensures c.in-New.is) c.refers.ensures.nodes c.refers.ensures.within
    refl (h ∙ ap (λ xs. xs ++ map Comes c.refers.result.now) c.in_ok-push-in-New.ensures.items) refl) c.add_each.ensures

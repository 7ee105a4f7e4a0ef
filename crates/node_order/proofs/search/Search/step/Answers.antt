use Rattle.std.proofs.Common.{◌<◌, length, get_or, refl, arith}
use Rattle.node_order.proofs.StepLaws.{advance_at_end, met_open, met_done, met_new, mark_met}
use Rattle.node_order.proofs.search.Search.step.Goals as goal

pub returns-then-top-nodes : goal.returns-then-top-nodes
returns-then-top-nodes c = advance_at_end _ _ _ _ c.requires (rw c.refers-nodes.ensures.nodes at c.if-top-nodes.true) c.in_ok-finish.ensures.marks c.in_ok-finish.ensures.path c.in_ok-finish.ensures.order

pub index-requires : goal.index-requires
index-requires c = omega (arith, c.refers-nodes.ensures.within c.args.top.next 0 c.if-top-nodes.false, c.args.self.now.marks.ok.0)

pub enter-requires : goal.enter-requires
enter-requires c = omega (arith, c.refers-nodes.ensures.within c.args.top.next 0 c.if-top-nodes.false, c.args.self.now.marks.ok.0)

pub returns-in-Open : goal.returns-in-Open
returns-in-Open c =
    let b : get_or c.refers-nodes.result.now c.args.top.next 0 < length c.args.self.now.marks.items = omega (arith, c.refers-nodes.ensures.within c.args.top.next 0 c.if-top-nodes.false) in
    met_open _ _ c.args.self.now c.args.self.now c.requires _ c.refers-nodes.ensures.nodes c.if-top-nodes.false (mark_met _ _ _ _ b c.index.ensures c.in-Open.is) refl

pub returns-in_ok-push-in-Done : goal.returns-in_ok-push-in-Done
returns-in_ok-push-in-Done c =
    let b : get_or c.refers-nodes.result.now c.args.top.next 0 < length c.args.self.now.marks.items = omega (arith, c.refers-nodes.ensures.within c.args.top.next 0 c.if-top-nodes.false) in
    met_done _ _ _ _ c.requires _ c.refers-nodes.ensures.nodes c.if-top-nodes.false (mark_met _ _ _ _ b c.index.ensures c.in-Done.is) refl c.in_ok-push-in-Done.ensures.items refl

pub returns-in_ok-enter-in-New : goal.returns-in_ok-enter-in-New
returns-in_ok-enter-in-New c =
    let b : get_or c.refers-nodes.result.now c.args.top.next 0 < length c.args.self.now.marks.items = omega (arith, c.refers-nodes.ensures.within c.args.top.next 0 c.if-top-nodes.false) in
    met_new _ _ _ _ c.requires _ c.refers-nodes.ensures.nodes c.if-top-nodes.false b (mark_met _ _ _ _ b c.index.ensures c.in-New.is) _
    c.in_ok-enter-in-New.ensures.marks c.in_ok-push-in-New.ensures.items c.in_ok-enter-in-New.ensures.path c.in_ok-enter-in-New.ensures.order

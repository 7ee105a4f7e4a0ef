use Rattle.std.proofs.Common.{◌≤◌, ℕ, List, get_or, take, subst, sym, arith}
use Rattle.std.proofs.lemmas.List.{take_more, take_all}
use Rattle.std.proofs.lemmas.List.Elements.{All-push}
use Rattle.node_order.specs.Rising.{number_at, Reach}
use Rattle.node_order.proofs.rising.reach.Goals as goal

pub loop-node-preserved : goal.loop-node-preserved
loop-node-preserved c = let i = c.loop-node.node-index in let nodes = c.args.nodes.now in
    let here : c.args.number ≤ number_at c.args.numbers.now (get_or nodes i 0) = omega (arith, c.if-number_at-number.false, c.number_at.ensures) in
    subst (λ (ns : List ℕ). Reach c.args.numbers.now c.args.number ns) (sym (take_more nodes i 0 c.loop-node-test.true))
    (All-push (λ (b : ℕ). c.args.number ≤ number_at c.args.numbers.now b) (take i nodes) (get_or nodes i 0) c.loop-node.invariant here)

pub returns : goal.returns
returns c = subst (λ (ns : List ℕ). Reach c.args.numbers.now c.args.number ns) (take_all c.loop-node.node-index c.args.nodes.now c.loop-node-test.false) c.loop-node.invariant

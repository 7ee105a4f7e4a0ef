use Rattle.std.proofs.Common.{◌≡◌, ℕ, ◌+◌, ◌-◌, [], Some, sym, ap, subst, ◌∙◌, arith}
use Rattle.std.proofs.lemmas.List.{append-nil}
use Rattle.node_order.proofs.ReturnLaws.{Completes, completes_first, completes_more, completed, next_of_away, walk_at_target}
use Rattle.node_order.proofs.cycle.walk_back.Goals as goal

pub loop-left-init : goal.loop-left-init
loop-left-init c = record {
  away = c.nearer-at.ensures.0.1;
  completes = rw (c.in_ok-push-2.ensures.items, c.in_ok-push.ensures.items, c.new-nodes.ensures.items) (completes_first _ _ _ c.requires.distances _ _ c.requires.steps c.nearer-at.ensures);
}

pub nearer-at-requires-in-loop-left-clause-some : goal.nearer-at-requires-in-loop-left-clause-some
nearer-at-requires-in-loop-left-clause-some c =
    let e : c.loop-left.left - 1 + 1 ≡ c.loop-left.left = omega (arith, c.loop-left-test.true) in
    next_of_away _ _ _ c.requires.distances c.loop-left.at (c.loop-left.left - 1) (c.loop-left.invariant.away ∙ ap Some (sym e))

pub loop-left-preserved : goal.loop-left-preserved
loop-left-preserved c =
    let e : c.loop-left.left - 1 + 1 ≡ c.loop-left.left = omega (arith, c.loop-left-test.true) in
    record {
      away = c.nearer-at-in-loop-left.ensures.0.1;
      completes = rw c.in_ok-push-3.ensures.items (completes_more _ _ _ c.requires.distances _ _ _ (c.loop-left.left - 1) _
          (subst (λ (k : ℕ). Completes c.args.graph.now c.args.node c.args.steps c.loop-left.at k c.loop-left.nodes.items) (sym e) c.loop-left.invariant.completes)
          (c.loop-left.invariant.away ∙ ap Some (sym e)) c.nearer-at-in-loop-left.ensures);
    }

pub returns : goal.returns
returns c =
    let z : c.loop-left.left ≡ 0 = omega (arith, c.loop-left-test.false) in
    let k = subst (λ (k : ℕ). Completes c.args.graph.now c.args.node c.args.steps c.loop-left.at k c.loop-left.nodes.items) z c.loop-left.invariant.completes in
    let r = k [] (walk_at_target _ _ _ c.requires.distances c.loop-left.at (c.loop-left.invariant.away ∙ ap Some z)) in
    (r.0, sym (append-nil c.loop-left.nodes.items) ∙ r.1, completed _ _ _ c.requires.distances _ r.0 c.requires.steps r.2)

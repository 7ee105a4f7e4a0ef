use Rattle.std.proofs.Common.{ℕ, true, false, eqb, List, ◌≡◌, length, subst, arith}
use Rattle.node_order.specs.Layers.{IsLayer}
use Rattle.node_order.proofs.LayerLaws.{layer_first, layer_more, layer_last, layer_below, few_at_first, layer_few, none_left}
use Rattle.node_order.proofs.distance.distances.Goals as goal

pub loop-alloc-init : goal.loop-alloc-init
loop-alloc-init c = rw (c.in_ok-found.ensures, c.in_ok-push.ensures.items, c.new-layer.ensures.items, c.len.ensures.count) (record {
  is_layer = layer_first _ _ c.requires;
  few = omega (arith, few_at_first (length c.args.graph.now) c.args.start c.requires);
})

pub next_layer-requires-clause-layer : goal.next_layer-requires-clause-layer
next_layer-requires-clause-layer c = rw c.as_slice.ensures.value (layer_below _ _ _ _ _ c.loop-alloc.invariant.is_layer)

pub loop-alloc-preserved : goal.loop-alloc-preserved
loop-alloc-preserved c =
    let adds = rw c.as_slice.ensures.value at c.in_ok-layer.ensures in
    record {
      is_layer = layer_more _ _ _ _ _ _ _ c.loop-alloc.invariant.is_layer adds;
      few = layer_few _ _ _ _ _ _ c.loop-alloc.invariant.few adds.work (subst (λ (n : ℕ). false ≡ eqb n 0) c.loop-alloc.layer.ok.0 c.loop-alloc-test.ensures);
    }

pub returns : goal.returns
returns c = layer_last _ _ _ _ (subst (λ (nodes : List ℕ). IsLayer c.args.graph.now c.args.start c.loop-alloc.found.items nodes c.loop-alloc.steps)
    (none_left _ (subst (λ (n : ℕ). true ≡ eqb n 0) c.loop-alloc.layer.ok.0 c.loop-alloc-test.ensures)) c.loop-alloc.invariant.is_layer)

use Rattle.std.proofs.Common.{sym, ap, subst, ◌∙◌, ◌<◌, ℕ, List, length, get_or, arith, refl}
use Rattle.std.specs.List.{All}
use Rattle.undertaker.proofs.Reached.{begin, smaller, go_on}
use Rattle.undertaker.proofs.closing.closure.Goals as goal

pub loop-at-init : goal.loop-at-init
loop-at-init c = record {
  progress = rw (c.in_ok-add.ensures.found, c.new-found.ensures.items) (begin c.args.graph.now c.args.wanted.now c.requires.wanted);
  marked = c.in_ok-add.ensures.marked;
  count = refl;
}

pub loop-at-smaller : goal.loop-at-smaller
loop-at-smaller c = smaller c.args.graph.now c.args.wanted.now c.loop-at.found.items c.loop-at.at c.loop-at.invariant.progress (omega arith)

pub loop-at-preserved : goal.loop-at-preserved
loop-at-preserved c = record {
  progress = rw (c.in_ok-add-2.ensures.found, c.needs.ensures.row) (go_on c.args.graph.now c.args.wanted.now c.loop-at.found.items c.loop-at.at c.loop-at.invariant.progress (omega arith) c.symbol_at-symbol.result
      (λ d. ap (λ (ks : List ℕ). get_or ks c.loop-at.at d) (sym c.deref.ensures.value) ∙ c.symbol_at-symbol.ensures d)
      (subst (λ (ks : List ℕ). All (λ k. k < length c.args.graph.now.needs) ks) c.needs.ensures.row c.needs.ensures.within));
  marked = c.in_ok-add-2.ensures.marked;
  count = c.in_ok-add-2.ensures.count ∙ c.loop-at.invariant.count;
}

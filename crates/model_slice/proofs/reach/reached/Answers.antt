use Rattle.std.proofs.Common.{◌≡◌, sym, ap, subst, ◌∙◌, List, Bor, map, length, drop, ◌-◌, arith}
use Rattle.std.proofs.lemmas.List.{take_all, length-drop}
use Rattle.std.proofs.lemmas.List.Folds.{flat_map-map}
use Rattle.std.specs.List.{flat_map}
use Rattle.ut_logic.specs.declared.node.Node.{Node}
use Rattle.model_slice.specs.Named.{names_of}
use Rattle.model_slice.specs.Found.{added}
use Rattle.model_slice.proofs.Progress.{Progress, start, level, smaller, finished}
use Rattle.model_slice.proofs.MetLaws.{met_start}
use Rattle.model_slice.proofs.reach.reached.Goals as goal

pub add-requires : goal.add-requires
add-requires g c = rw (c.new-met.ensures.nodes, c.new-met.ensures.others) (met_start c.args.room.now)

pub loop-at-init : goal.loop-at-init
loop-at-init g c = record {
  progress = rw (c.in_ok-add.ensures.added, c.new-met.ensures.nodes) (start (g.S.FindFact.facts c.args.store.now) c.args.roots.now c.requires);
  noted = c.in_ok-add.ensures.noted;
}

pub loop-at-smaller : goal.loop-at-smaller
loop-at-smaller g c = let less = smaller (g.S.FindFact.facts c.args.store.now) c.args.roots.now c.loop-at.met.nodes.items c.loop-at.at c.loop-at.invariant.progress (omega arith) in omega (arith, less, c.len-count.ensures)

pub returns : goal.returns
returns g c = rw c.into_nodes.ensures (finished (g.S.FindFact.facts c.args.store.now) c.args.roots.now c.loop-at.met.nodes.items c.loop-at.at c.loop-at.invariant.progress (omega arith))

pub loop-at-preserved : goal.loop-at-preserved
loop-at-preserved g c = record {
  progress = let facts = g.S.FindFact.facts c.args.store.now in let roots = c.args.roots.now in let found = c.loop-at.met.nodes.items in let at = c.loop-at.at in
      let all = c.deref.result.now in
      let now : Bor (List Node) → List Node = λ s. s.now in
      let own : List Node → List Node = λ ns. ns in
      let rest = take_all (length all - at) (drop at all) (omega (arith, length-drop at all)) ∙ ap (λ (ns : List Node). drop at ns) c.deref.ensures.value in
      let lists = ap (λ (ss : List (Bor (List Node))). map now ss) c.deref-in-loop-at.ensures.value ∙ (c.in_ok-each.ensures ∙ ap (λ (ns : List Node). map (names_of facts) ns) rest) in
      let more = sym (flat_map-map own now c.deref-in-loop-at.result.now) ∙ (ap (λ (ls : List (List Node)). flat_map own ls) lists ∙ flat_map-map own (names_of facts) (drop at found)) in
      let count : c.len-count.result ≡ length found = omega (arith, c.len-count.ensures) in
      let whole = c.in_ok-add_each.ensures.added ∙ ap (λ (ns : List Node). added found ns) more in
      subst (λ (ns : List Node). Progress facts roots ns c.len-count.result) (sym whole)
      (subst (Progress facts roots (added found (flat_map (names_of facts) (drop at found)))) (sym count) (level facts roots found at c.requires c.loop-at.invariant.progress));
  noted = c.in_ok-add_each.ensures.noted;
}

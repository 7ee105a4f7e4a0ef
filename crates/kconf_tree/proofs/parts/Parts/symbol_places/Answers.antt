use Rattle.std.proofs.Common.{ℕ, sym, ap, ◌∙◌, ◌∷◌, ◌++◌, [], arith}
use Rattle.std.proofs.lemmas.List.FromFn.{map-range_with_len_more}
use Rattle.kconf_tree.specs.References.{node_of}
use Rattle.kconf_tree.specs.Numbering.{place_among}
use Rattle.kconf_tree.proofs.parts.Parts.symbol_places.Goals as goal

pub loop-sym-preserved : goal.loop-sym-preserved
loop-sym-preserved c = let t = c.args.self.now in let keys = c.args.nodes.now.keys in let n = c.loop-sym.sym in
    let f : ℕ → ℕ = λ k. place_among keys (node_of t k) in
    c.in_ok-push.ensures.items ∙ (ap (λ p. c.loop-sym.places.items ++ p ∷ []) (c.place.ensures.place ∙ ap (place_among keys) c.node_of.ensures)
    ∙ (ap (λ ps. ps ++ f n ∷ []) c.loop-sym.invariant ∙ sym (map-range_with_len_more f 0 n n (omega arith))))

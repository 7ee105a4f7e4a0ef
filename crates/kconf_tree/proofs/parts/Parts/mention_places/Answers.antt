use Rattle.std.proofs.Common.{◌≡◌, ◌++◌, List, [], ◌∷◌, map, ap, sym, subst, ◌∙◌, refl}
use Rattle.std.specs.Result.{OnOk}
use Rattle.std.proofs.lemmas.Bool.{false≢true}
use Rattle.kconf_entries.specs.declared.expr.Expr.{Expr}
use Rattle.kconf_tree.specs.declared.shape.Selector.{Selector}
use Rattle.kconf_tree.specs.declared.shape.Symbol.{Symbol}
use Rattle.kconf_tree.specs.declared.links.Link.TheVariants.{Implies}
use Rattle.kconf_tree.specs.Shape.{Shape, symbol_at}
use Rattle.kconf_tree.specs.Linking.{linker_of}
use Rattle.kconf_tree.specs.References.{in_conditions, of_implied}
use Rattle.kconf_tree.proofs.LinkLaws.{row_at}
use Rattle.kconf_tree.proofs.parts.Parts.mention_places.Goals as goal

-- where some symbol implies it, they are those of the places
implied : (t : Shape) (row : List Selector) (places : List Expr) → ¬ (row ≡ []) → of_implied t (map (linker_of t Implies) row) places ≡ in_conditions t places
implied t [] places h = absurd (h refl)
implied t (s ∷ row) places h = refl

pub returns-clause-row : goal.returns-clause-row
returns-clause-row c = let t = c.args.self.now in let k = c.args.sym in let row = c.index.result.now in let places = (symbol_at t k).places in
    subst (λ ks. OnOk c.mention_each.result (c.mention_each.new.row ≡ c.args.row.now ++ ks))
    (ap (in_conditions t) (c.as_slice.ensures ∙ ap (λ (s : Symbol). s.places) c.symbol_at.ensures.value) ∙ (sym (implied t row places (λ n. false≢true (c.if-is_empty.ensures.1 n)))
    ∙ ap (λ ss. of_implied t ss places) (ap (map (linker_of t Implies)) c.index.ensures ∙ row_at t Implies c.args.links.now.implies.items c.requires.links.implies k row c.requires.sym)))
    c.mention_each.ensures.row

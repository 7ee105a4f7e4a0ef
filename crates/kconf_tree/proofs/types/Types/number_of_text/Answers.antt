use Rattle.std.proofs.Common.{sym, ap, ◌∙◌}
use Rattle.ut_text.specs.Text.{text_eq, text_equiv}
use Rattle.kconf_tree.specs.Shape.{number_of}
use Rattle.kconf_tree.specs.Types.{typed, typed_symbol}
use Rattle.kconf_tree.proofs.Places.{position-map, same_position}
use Rattle.kconf_tree.proofs.types.Types.number_of_text.Goals as goal

pub returns-clause-number : goal.returns-clause-number
returns-clause-number c = let es = c.self.inside.map.entries in let name = c.args.name.now in
    c.get_index_of.ensures.index ∙ (position-map (λ p. p.0) (text_eq name) es ∙ (same_position (λ p. text_eq name p.0) (λ p. text_eq p.0 name) es (λ p. text_equiv.symm name p.0)
    ∙ (sym (position-map typed_symbol (λ s. text_eq s.name name) es) ∙ ap (λ ds. number_of (typed ds) name) c.self.view_is)))

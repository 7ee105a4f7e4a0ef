use Rattle.std.proofs.Common.{ap, ◌∙◌}
use Rattle.kconf_tree.specs.Shape.{number_of}
use Rattle.kconf_tree.specs.Types.{typed}
use Rattle.kconf_tree.specs.PartsInside.{shape_of}
use Rattle.kconf_tree.proofs.NameLaws.{numbers_by_names}
use Rattle.kconf_tree.proofs.parts.Parts.symbol.Goals as goal

pub returns-in-Some-clause-number : goal.returns-in-Some-clause-number
returns-in-Some-clause-number c = let t = c.self.inside in let name = c.args.name.now in
    c.in-Some.ensures.number ∙ (numbers_by_names (typed t.types) (shape_of t) name c.self.invariant.named ∙ ap (λ a. number_of a name) c.self.view_is)

pub returns-in-None-clause-number : goal.returns-in-None-clause-number
returns-in-None-clause-number c = let t = c.self.inside in let name = c.args.name.now in
    c.in-None.ensures.number ∙ (numbers_by_names (typed t.types) (shape_of t) name c.self.invariant.named ∙ ap (λ a. number_of a name) c.self.view_is)

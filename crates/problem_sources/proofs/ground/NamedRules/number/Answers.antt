use Rattle.std.proofs.Common.{ap, ◌∙◌}
use Rattle.ut_logic.specs.declared.facts.Rules.{Rules}
use Rattle.ut_text.specs.Text.{text_eq, text_equiv}
use Rattle.kconf_constr.specs.Scope.{number_among}
use Rattle.kconf_tree.proofs.Places.{same_position}
use Rattle.problem_sources.proofs.ground.NamedRules.number.Goals as goal

pub returns-in-Some-clause-number : goal.returns-in-Some-clause-number
returns-in-Some-clause-number c = let name = c.args.name.now in c.in-Some.ensures.index
    ∙ (same_position (text_eq name) (λ o. text_eq o name) c.self.inside.names.keys (text_equiv.symm name)
    ∙ (ap (λ ks. number_among ks name) c.self.invariant.same ∙ ap (λ (r : Rules). number_among r.names name) c.self.view_is))

use Rattle.std.proofs.Common.{ap, ◌∙◌}
use Rattle.ut_text.specs.Text.{text_eq, text_equiv}
use Rattle.kconf_tree.specs.Shape.{Shape, outer_at}
use Rattle.kconf_tree.proofs.Places.{same_position}
use Rattle.kconf_tree.proofs.parts.Parts.outer_number.Goals as goal

pub returns-in-Some-clause-number : goal.returns-in-Some-clause-number
returns-in-Some-clause-number c = c.in-Some.ensures.index ∙ (same_position (text_eq (c.args.text.now)) (λ o. text_eq o (c.args.text.now)) c.self.inside.outers.keys (text_equiv.symm (c.args.text.now)) ∙ ap (λ (s : Shape). outer_at s (c.args.text.now)) c.self.view_is)

pub returns-in-None-clause-number : goal.returns-in-None-clause-number
returns-in-None-clause-number c = c.in-None.ensures.index ∙ (same_position (text_eq (c.args.text.now)) (λ o. text_eq o (c.args.text.now)) c.self.inside.outers.keys (text_equiv.symm (c.args.text.now)) ∙ ap (λ (s : Shape). outer_at s (c.args.text.now)) c.self.view_is)

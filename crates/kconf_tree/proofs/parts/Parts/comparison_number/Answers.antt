use Rattle.std.proofs.Common.{ap, ◌∙◌}
use Rattle.ut_text.specs.Text.{text_eq, text_equiv}
use Rattle.kconf_tree.specs.Shape.{Shape, outer_at}
use Rattle.kconf_entries.specs.Written.{comparison_text}
use Rattle.kconf_tree.specs.Feeding.{asked_text}
use Rattle.kconf_tree.specs.PartsInside.{shape_of}
use Rattle.kconf_tree.proofs.Places.{same_position}
use Rattle.kconf_tree.proofs.parts.Parts.comparison_number.Goals as goal

pub returns-in-Some-clause-number : goal.returns-in-Some-clause-number
returns-in-Some-clause-number c = c.in-Some.ensures.index ∙ (same_position (text_eq (asked_text c.of.result)) (λ o. text_eq o (asked_text c.of.result)) c.self.inside.outers.keys (text_equiv.symm (asked_text c.of.result))
    ∙ (ap (outer_at (shape_of c.self.inside)) c.of.ensures ∙ ap (λ (s : Shape). outer_at s (comparison_text c.args.left.now c.args.sign c.args.right.now)) c.self.view_is))

pub returns-in-None-clause-number : goal.returns-in-None-clause-number
returns-in-None-clause-number c = c.in-None.ensures.index ∙ (same_position (text_eq (asked_text c.of.result)) (λ o. text_eq o (asked_text c.of.result)) c.self.inside.outers.keys (text_equiv.symm (asked_text c.of.result))
    ∙ (ap (outer_at (shape_of c.self.inside)) c.of.ensures ∙ ap (λ (s : Shape). outer_at s (comparison_text c.args.left.now c.args.sign c.args.right.now)) c.self.view_is))

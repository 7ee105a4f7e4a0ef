use Rattle.std.proofs.Common.{◌∙◌}
use Rattle.kconf_tree.specs.Feeding.{asked_text}
use Rattle.kconf_tree.proofs.Words.{not_text, is_whole}
use Rattle.kconf_tree.proofs.asked_comparison.AskedComparison.is_text.Goals as goal

pub returns-in-None : goal.returns-in-None
returns-in-None c = not_text (asked_text c.args.self.now) c.args.text.now c.in-None.ensures

pub returns-in-Some : goal.returns-in-Some
returns-in-Some c = c.is_empty.ensures ∙ is_whole (asked_text c.args.self.now) c.args.text.now c.in-Some.rest.now c.in-Some.ensures

use Rattle.std.proofs.Common.{◌∙◌, ap, sym}
use Rattle.kconf_lines.specs.HelpTexts.{after_first}
use Rattle.kconf_lines.proofs.LineLemmas.{with_first}
use Rattle.kconf_lines.proofs.cursor.LineCursor.skip_help.Goals as goal

pub returns-then-least-gt0 : goal.returns-then-least-gt0
returns-then-least-gt0 c =
    c.skip-then-least-gt0.ensures ∙ sym (with_first c.skip.new.self c.indentation-least.result c.indentation-least.ensures c.if-least-gt0.true)
    ∙ ap after_first c.skip.ensures

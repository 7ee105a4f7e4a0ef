use Rattle.kconf_lines.proofs.LineLaws.{passes_help}
use Rattle.kconf_lines.proofs.laws.help_texts_come_off_the_lines_after.Goals as goal

pub returns : goal.returns
returns c = passes_help

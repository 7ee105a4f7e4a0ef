use Rattle.kconf_lines.proofs.LineLaws.{lines_cut}
use Rattle.kconf_lines.proofs.laws.lines_are_cut_off_one_after_another.Goals as goal

pub returns : goal.returns
returns c = lines_cut

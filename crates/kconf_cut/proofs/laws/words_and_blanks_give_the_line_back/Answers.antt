use Rattle.kconf_cut.proofs.BackLaws.{gives_back}
use Rattle.kconf_cut.proofs.laws.words_and_blanks_give_the_line_back.Goals as goal

pub returns : goal.returns
returns c = gives_back

use Rattle.kconf_cut.proofs.WordLemmas.{words_cut}
use Rattle.kconf_cut.proofs.laws.words_are_cut_off_one_after_another.Goals as goal

pub returns : goal.returns
returns c = words_cut

use Rattle.std.proofs.Common.{refl}
use Rattle.kconf_texts.proofs.Computing.{computing}
use Rattle.kconf_texts.proofs.worked.lines_and_words.Goals as goal

pub returns-clause-help : goal.returns-clause-help
unfolding computing
returns-clause-help c = refl

pub returns-clause-joined : goal.returns-clause-joined
unfolding computing
returns-clause-joined c = refl

pub returns-clause-no_effect : goal.returns-clause-no_effect
unfolding computing
returns-clause-no_effect c = refl

pub returns-clause-macros : goal.returns-clause-macros
unfolding computing
returns-clause-macros c = refl

pub returns-clause-compared : goal.returns-clause-compared
unfolding computing
returns-clause-compared c = refl

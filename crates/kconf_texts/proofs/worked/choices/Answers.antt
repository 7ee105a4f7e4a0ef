use Rattle.std.proofs.Common.{refl}
use Rattle.kconf_texts.proofs.Computing.{computing}
use Rattle.kconf_texts.proofs.worked.choices.Goals as goal

pub returns-clause-tristate : goal.returns-clause-tristate
unfolding computing
returns-clause-tristate c = refl

pub returns-clause-given : goal.returns-clause-given
unfolding computing
returns-clause-given c = refl

pub returns-clause-by_lines : goal.returns-clause-by_lines
unfolding computing
returns-clause-by_lines c = refl

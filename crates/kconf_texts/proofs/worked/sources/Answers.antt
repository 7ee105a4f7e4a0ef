use Rattle.std.proofs.Common.{refl}
use Rattle.kconf_texts.proofs.Computing.{computing}
use Rattle.kconf_texts.proofs.worked.sources.Goals as goal

pub returns-clause-inside : goal.returns-clause-inside
unfolding computing
returns-clause-inside c = refl

pub returns-clause-after : goal.returns-clause-after
unfolding computing
returns-clause-after c = refl

pub returns-clause-unclosed : goal.returns-clause-unclosed
unfolding computing
returns-clause-unclosed c = refl

pub returns-clause-other_text : goal.returns-clause-other_text
unfolding computing
returns-clause-other_text c = refl

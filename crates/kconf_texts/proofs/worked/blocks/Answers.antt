use Rattle.std.proofs.Common.{refl}
use Rattle.kconf_texts.proofs.Computing.{computing}
use Rattle.kconf_texts.proofs.worked.blocks.Goals as goal

pub returns-clause-nested : goal.returns-clause-nested
unfolding computing
returns-clause-nested c = refl

pub returns-clause-comment : goal.returns-clause-comment
unfolding computing
returns-clause-comment c = refl

use Rattle.std.proofs.Common.{refl}
use Rattle.kconf_texts.proofs.Computing.{computing}
use Rattle.kconf_texts.proofs.worked.past_limits.Goals as goal

pub returns-clause-itself : goal.returns-clause-itself
unfolding computing
returns-clause-itself c = refl

pub returns-clause-sourced : goal.returns-clause-sourced
unfolding computing
returns-clause-sourced c = refl

pub returns-clause-nesting : goal.returns-clause-nesting
unfolding computing
returns-clause-nesting c = refl

pub returns-clause-within : goal.returns-clause-within
unfolding computing
returns-clause-within c = refl

pub returns-clause-brackets : goal.returns-clause-brackets
unfolding computing
returns-clause-brackets c = refl

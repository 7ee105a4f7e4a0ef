use Rattle.std.proofs.Common.{refl}
use Rattle.kconf_texts.proofs.Computing.{computing}
use Rattle.kconf_texts.proofs.worked.configs.Goals as goal

pub returns-clause-alone : goal.returns-clause-alone
unfolding computing
returns-clause-alone c = refl

pub returns-clause-typed : goal.returns-clause-typed
unfolding computing
returns-clause-typed c = refl

pub returns-clause-conditions : goal.returns-clause-conditions
unfolding computing
returns-clause-conditions c = refl

pub returns-clause-links : goal.returns-clause-links
unfolding computing
returns-clause-links c = refl

pub returns-clause-range : goal.returns-clause-range
unfolding computing
returns-clause-range c = refl

pub returns-clause-modules : goal.returns-clause-modules
unfolding computing
returns-clause-modules c = refl

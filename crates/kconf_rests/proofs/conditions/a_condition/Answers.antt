use Rattle.std.proofs.Common.{subst}
use Rattle.kconf_words.specs.Faults.{Gives}
use Rattle.kconf_rests.proofs.RestLemmas.{condition_is}
use Rattle.kconf_rests.proofs.conditions.a_condition.Goals as goal

pub returns : goal.returns
returns c = subst (Gives c.within_limit.result) (condition_is c.args.words.now c.in_ok-condition.condition c.in_ok-condition.ensures) c.within_limit.ensures

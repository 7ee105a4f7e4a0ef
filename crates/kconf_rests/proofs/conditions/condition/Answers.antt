use Rattle.kconf_rests.proofs.RestLemmas.{condition_none}
use Rattle.kconf_rests.proofs.conditions.condition.Goals as goal

pub returns-in-empty : goal.returns-in-empty
returns-in-empty c = condition_none c.args.words.now c.in-empty.len_below

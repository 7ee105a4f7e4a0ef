use Rattle.kconf_rests.proofs.RestLemmas.{alone_kept}
use Rattle.kconf_rests.proofs.expressions.expression_alone.Goals as goal

pub returns-in-empty : goal.returns-in-empty
returns-in-empty c = alone_kept c.args.words.now c.in_ok-read.read c.in_ok-read.ensures c.in-empty.len_below

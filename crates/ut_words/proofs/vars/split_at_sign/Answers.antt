use Rattle.ut_words.proofs.VarLaws.{sign_parts}
use Rattle.ut_words.proofs.vars.split_at_sign.Goals as goal

pub returns : goal.returns
returns c = sign_parts c.args.item.now c.split_once.result c.split_once.ensures.cases

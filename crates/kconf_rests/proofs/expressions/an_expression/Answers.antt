use Rattle.std.proofs.Common.{subst}
use Rattle.kconf_words.specs.Faults.{Gives}
use Rattle.kconf_rests.proofs.RestLemmas.{expression_is}
use Rattle.kconf_rests.proofs.expressions.an_expression.Goals as goal

pub returns : goal.returns
returns c = subst (Gives c.within_limit.result) (expression_is c.args.words.now c.in_ok-expr.expr c.in_ok-expr.ensures) c.within_limit.ensures

use Rattle.kconf_exprs.proofs.GrammarLaws.{expression_is, conjunction_is, factor_is}
use Rattle.kconf_exprs.proofs.laws.expressions_follow_the_grammar.Goals as goal

pub returns-clause-expression : goal.returns-clause-expression
returns-clause-expression c = expression_is

pub returns-clause-conjunction : goal.returns-clause-conjunction
returns-clause-conjunction c = conjunction_is

pub returns-clause-factor : goal.returns-clause-factor
returns-clause-factor c = factor_is

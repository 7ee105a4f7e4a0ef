use Rattle.std.proofs.Common.{refl}
use Rattle.kconf_texts.proofs.Computing.{computing}
use Rattle.kconf_texts.proofs.worked.refusals.Goals as goal

pub returns-clause-quote : goal.returns-clause-quote
unfolding computing
returns-clause-quote c = refl

pub returns-clause-bracket : goal.returns-clause-bracket
unfolding computing
returns-clause-bracket c = refl

pub returns-clause-word : goal.returns-clause-word
unfolding computing
returns-clause-word c = refl

pub returns-clause-end_word : goal.returns-clause-end_word
unfolding computing
returns-clause-end_word c = refl

pub returns-clause-attribute : goal.returns-clause-attribute
unfolding computing
returns-clause-attribute c = refl

pub returns-clause-expression : goal.returns-clause-expression
unfolding computing
returns-clause-expression c = refl

pub returns-clause-named : goal.returns-clause-named
unfolding computing
returns-clause-named c = refl

pub returns-clause-extra : goal.returns-clause-extra
unfolding computing
returns-clause-extra c = refl

pub returns-clause-macro_call : goal.returns-clause-macro_call
unfolding computing
returns-clause-macro_call c = refl

pub returns-clause-twice : goal.returns-clause-twice
unfolding computing
returns-clause-twice c = refl

pub returns-clause-unclosed : goal.returns-clause-unclosed
unfolding computing
returns-clause-unclosed c = refl

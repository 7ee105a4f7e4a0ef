use Rattle.std.proofs.Common.{◌∙◌, sym}
use Rattle.ut_words.proofs.NameLaws.{exit_memory, no_name_given, name_given, no_name}
use Rattle.ut_words.proofs.names.name.Goals as goal

pub returns-in_default : goal.returns-in_default
returns-in_default c = λ said reads. no_name_given said c.args.option.now (c.in_default.ensures said reads)

pub returns-in_err-name : goal.returns-in_err-name
returns-in_err-name c = λ said reads. exit_memory _ _ _ c.from_residual.result c.from_residual.ensures.1

pub returns-in-Some-2 : goal.returns-in-Some-2
returns-in-Some-2 c = λ said reads. name_given said c.args.option.now c.in-Some.text.now c.in-Some-2.name (c.in-Some.ensures said reads) (sym c.in-Some-2.is ∙ c.in_ok-name.ensures)

pub returns-in-None : goal.returns-in-None
returns-in-None c = λ said reads. no_name said c.args.option.now c.in-Some.text.now (c.in-Some.ensures said reads) (sym c.in-None.is ∙ c.in_ok-name.ensures)

use Rattle.std.proofs.Common.{◌∙◌, ap}
use Rattle.std.proofs.lemmas.Result.{IfOk-weaker}
use Rattle.clap.specs.Words.{app_of, with_rule}
use Rattle.ut_words.proofs.command.evidence.Goals as goal

pub returns : goal.returns
returns c = IfOk-weaker c.arg.result _ _ (λ new added. added.shape c.long_flag.ensures.own ∙ ap (with_rule (app_of c.args.command)) c.long_flag.ensures.rule_is) c.arg.ensures

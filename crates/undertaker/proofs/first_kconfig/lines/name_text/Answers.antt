use Rattle.std.proofs.Common.{◌∙◌}
use Rattle.std.proofs.lemmas.Result.{IfOk-weaker}
use Rattle.undertaker.proofs.NameTexts.{kconfig_name_kept}
use Rattle.undertaker.proofs.first_kconfig.lines.name_text.Goals as goal

pub returns : goal.returns
returns c = IfOk-weaker c.of_bytes.result _ _ (λ t e. e ∙ kconfig_name_kept c.args.name.now c.requires) c.of_bytes.ensures

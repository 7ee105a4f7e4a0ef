use Rattle.std.proofs.Common.{◌∙◌}
use Rattle.std.proofs.lemmas.Result.{IfOk-weaker}
use Rattle.ut_text.proofs.NameTexts.{escaped-name}
use Rattle.ut_text.proofs.text.Text.of_name.Goals as goal

pub returns : goal.returns
returns c = IfOk-weaker c.of_bytes.result _ _ (λ t e. e ∙ escaped-name c.args.name.now c.requires) c.of_bytes.ensures

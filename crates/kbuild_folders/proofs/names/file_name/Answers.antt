use Rattle.std.proofs.Common.{◌∙◌}
use Rattle.std.proofs.lemmas.Result.{IfOk-weaker}
use Rattle.kbuild_folders.proofs.NameLaws.{no_utf8_name, utf8_name}
use Rattle.kbuild_folders.proofs.names.file_name.Goals as goal

pub returns-in-Ok : goal.returns-in-Ok
returns-in-Ok c = IfOk-weaker c.new.result _ _ (λ n h. h ∙ utf8_name c.args.bytes.now c.in-Ok.text.now c.in-Ok.ensures.cases.0 c.in-Ok.ensures.cases.1) c.new.ensures

pub returns-in-Err : goal.returns-in-Err
returns-in-Err c = no_utf8_name c.args.bytes.now c.in-Err.ensures.cases.0

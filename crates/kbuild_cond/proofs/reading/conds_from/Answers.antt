use Rattle.kbuild_cond.proofs.CondLaws.{files_come, folders_out}
use Rattle.kbuild_cond.proofs.reading.conds_from.Goals as goal

pub returns-in_err-folders : goal.returns-in_err-folders
returns-in_err-folders c = folders_out c.args.base.now c.args.texts.now c.in_err-folders.field-0.0 c.from_residual.result c.from_residual.ensures.1 c.in_err-folders.ensures

pub returns : goal.returns
returns c = files_come c.args.base.now c.args.texts.now c.in_ok-folders.folders c.files_of.result c.in_ok-folders.ensures c.files_of.ensures

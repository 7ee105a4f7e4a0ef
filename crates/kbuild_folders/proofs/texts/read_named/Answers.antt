use Rattle.ut_base.proofs.PlanLaws.{reads_result}
use Rattle.ut_base.proofs.ReadingLaws.{reads_exit, reads_then}
use Rattle.kbuild_folders.specs.Errors.{kbuild_errors}
use Rattle.kbuild_folders.specs.Texts.{text_read}
use Rattle.kbuild_folders.proofs.TextLaws.{text_read_own}
use Rattle.kbuild_folders.proofs.texts.read_named.Goals as goal

pub returns-in_err-text : goal.returns-in_err-text
returns-in_err-text g c = reads_exit c.from_residual.ensures.1 c.in_err-text.ensures

pub returns : goal.returns
returns g c =
    reads_then c.in_ok-text.ensures (reads_result kbuild_errors (text_read c.args.folder.now c.args.file.now c.in_ok-text.text) (text_read_own c.args.folder.now c.args.file.now c.in_ok-text.text) c.read_text.ensures)

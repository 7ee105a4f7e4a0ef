use Rattle.ut_base.proofs.PlanLaws.{reads_result}
use Rattle.ut_base.proofs.ReadingLaws.{reads_exit, reads_onto}
use Rattle.kbuild_folders.specs.Errors.{kbuild_errors}
use Rattle.kbuild_folders.specs.Texts.{text_read}
use Rattle.kbuild_folders.proofs.TextLaws.{text_read_own}
use Rattle.kbuild_folders.proofs.texts.read_kbuild_or.Goals as goal

pub returns-in_err-text : goal.returns-in_err-text
returns-in_err-text g c = reads_exit c.from_residual.ensures.1 c.in_err-text.ensures

pub returns-in-Some : goal.returns-in-Some
returns-in-Some g c =
    reads_onto c.in-Some.is c.in_ok-text.ensures
    (reads_result kbuild_errors (text_read c.args.place.folder.now c.args.kbuild.now c.in-Some.text) (text_read_own c.args.place.folder.now c.args.kbuild.now c.in-Some.text) c.read_text.ensures)

pub returns-in-None : goal.returns-in-None
returns-in-None g c = reads_onto c.in-None.is c.in_ok-text.ensures c.read_makefile.ensures

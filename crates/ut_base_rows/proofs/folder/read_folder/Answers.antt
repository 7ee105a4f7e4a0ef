use Rattle.ut_base.proofs.PlanLaws.{reads_result}
use Rattle.ut_base.proofs.ReadingLaws.{reads_exit, reads_onto, reads_then}
use Rattle.ut_base_rows.specs.Errors.{folder_errors}
use Rattle.ut_base_rows.specs.Folders.{filled}
use Rattle.ut_base_rows.proofs.FolderLemmas.{filled_own}
use Rattle.ut_base_rows.proofs.folder.read_folder.Goals as goal

pub returns-in_err-text : goal.returns-in_err-text
returns-in_err-text g c = reads_exit c.from_residual.ensures.1 c.in_err-text.ensures

pub returns-in-Some : goal.returns-in-Some
returns-in-Some g c =
    reads_onto c.in-Some.is c.in_ok-text.ensures (reads_result folder_errors (filled c.args.folder.now.first c.in-Some.text) (filled_own _ _) c.fill.ensures)

pub returns-in_err-text-in-None : goal.returns-in_err-text-in-None
returns-in_err-text-in-None g c =
    reads_onto c.in-None.is c.in_ok-text.ensures (reads_exit c.from_residual-in_err-text-in-None.ensures.1 c.in_err-text-in-None.ensures)

pub returns-in_ok-text-in-None : goal.returns-in_ok-text-in-None
returns-in_ok-text-in-None g c =
    reads_onto c.in-None.is c.in_ok-text.ensures
    (reads_then c.in_ok-text-in-None.ensures (reads_result folder_errors (filled c.args.folder.now.second c.in_ok-text-in-None.text) (filled_own _ _) c.fill-in-None.ensures))

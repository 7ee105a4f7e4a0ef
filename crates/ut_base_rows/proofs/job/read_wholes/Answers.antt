use Rattle.std.proofs.Common.{refl}
use Rattle.ut_base.proofs.ReadingLaws.{reads_exit, reads_ok, reads_then, turned_err, turned_ok}
use Rattle.ut_base_rows.proofs.job.read_wholes.Goals as goal

pub returns-in_err-folders : goal.returns-in_err-folders
returns-in_err-folders g c =
    let folders = rw c.deref.ensures.value at c.in_err-folders.ensures in
    reads_exit c.from_residual.ensures.1 (turned_err folders)

pub returns-in_err-sources : goal.returns-in_err-sources
returns-in_err-sources g c =
    let folders = rw c.deref.ensures.value at c.in_ok-folders.ensures in
    let sources = rw c.deref-2.ensures.value at c.in_err-sources.ensures in
    reads_then (turned_ok folders) (reads_exit c.from_residual-in_err-sources.ensures.1 sources)

pub returns : goal.returns
returns g c =
    let folders = rw c.deref.ensures.value at c.in_ok-folders.ensures in
    let sources = rw c.deref-2.ensures.value at c.in_ok-sources.ensures in
    reads_then (turned_ok folders) (reads_then sources (reads_ok refl))

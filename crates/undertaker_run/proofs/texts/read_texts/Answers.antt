use Rattle.std.proofs.Common.{refl}
use Rattle.ut_base.proofs.ReadingLaws.{reads_exit, reads_ok, reads_then}
use Rattle.undertaker_run.proofs.texts.read_texts.Goals as goal

pub returns-in_err-kbuild : goal.returns-in_err-kbuild
returns-in_err-kbuild g c = reads_exit c.from_residual.ensures.1 c.in_err-kbuild.ensures

pub returns : goal.returns
returns g c = reads_then c.in_ok-kbuild.ensures (reads_ok refl)

use Rattle.std.proofs.Common.{codes, take, drop}
use Rattle.ut_words.specs.declared.order.UsageKind.TheVariants as usage
use Rattle.ut_words.specs.Options.{a_file}
use Rattle.ut_words.specs.Words.{fits_if_given}
use Rattle.ut_words.proofs.NameLaws.{exit_fails, fails_among, file_options, all_named}
use Rattle.ut_words.proofs.names.names_in.Goals as goal

pub returns-in_err-model : goal.returns-in_err-model
returns-in_err-model c = λ said reads.
    exit_fails usage.File (fits_if_given a_file (codes "-m") said) _ _ c.from_residual.result _ (fails_among said (take 0 file_options) (drop 1 file_options) (codes "-m")) c.from_residual.ensures.1 (c.in_err-model.ensures said reads)

pub returns-in_err-kconfig : goal.returns-in_err-kconfig
returns-in_err-kconfig c = λ said reads.
    exit_fails usage.File (fits_if_given a_file (codes "--kconfig") said) _ _ c.from_residual-in_err-kconfig.result _ (fails_among said (take 1 file_options) (drop 2 file_options) (codes "--kconfig")) c.from_residual-in_err-kconfig.ensures.1 (c.in_err-kconfig.ensures said reads)

pub returns-in_err-rsf : goal.returns-in_err-rsf
returns-in_err-rsf c = λ said reads.
    exit_fails usage.File (fits_if_given a_file (codes "--rsf") said) _ _ c.from_residual-in_err-rsf.result _ (fails_among said (take 2 file_options) (drop 3 file_options) (codes "--rsf")) c.from_residual-in_err-rsf.ensures.1 (c.in_err-rsf.ensures said reads)

pub returns-in_err-kbuild : goal.returns-in_err-kbuild
returns-in_err-kbuild c = λ said reads.
    exit_fails usage.File (fits_if_given a_file (codes "--kbuild") said) _ _ c.from_residual-in_err-kbuild.result _ (fails_among said (take 3 file_options) (drop 4 file_options) (codes "--kbuild")) c.from_residual-in_err-kbuild.ensures.1 (c.in_err-kbuild.ensures said reads)

pub returns-in_err-report : goal.returns-in_err-report
returns-in_err-report c = λ said reads.
    exit_fails usage.File (fits_if_given a_file (codes "--report") said) _ _ c.from_residual-in_err-report.result _ (fails_among said (take 4 file_options) (drop 5 file_options) (codes "--report")) c.from_residual-in_err-report.ensures.1 (c.in_err-report.ensures said reads)

pub returns-in_err-trace : goal.returns-in_err-trace
returns-in_err-trace c = λ said reads.
    exit_fails usage.File (fits_if_given a_file (codes "--trace") said) _ _ c.from_residual-in_err-trace.result _ (fails_among said (take 5 file_options) (drop 6 file_options) (codes "--trace")) c.from_residual-in_err-trace.ensures.1 (c.in_err-trace.ensures said reads)

pub returns-in_err-white : goal.returns-in_err-white
returns-in_err-white c = λ said reads.
    exit_fails usage.File (fits_if_given a_file (codes "--white") said) _ _ c.from_residual-in_err-white.result _ (fails_among said (take 6 file_options) (drop 7 file_options) (codes "--white")) c.from_residual-in_err-white.ensures.1 (c.in_err-white.ensures said reads)

pub returns-in_err-black : goal.returns-in_err-black
returns-in_err-black c = λ said reads.
    exit_fails usage.File (fits_if_given a_file (codes "--black") said) _ _ c.from_residual-in_err-black.result _ (fails_among said (take 7 file_options) (drop 8 file_options) (codes "--black")) c.from_residual-in_err-black.ensures.1 (c.in_err-black.ensures said reads)

pub returns : goal.returns
returns c = λ said reads.
    all_named said c.in_ok-model.model c.in_ok-kconfig.kconfig c.in_ok-rsf.rsf c.in_ok-kbuild.kbuild c.in_ok-report.report c.in_ok-trace.trace c.in_ok-white.white c.in_ok-black.black
    (c.in_ok-model.ensures said reads)
    (c.in_ok-kconfig.ensures said reads)
    (c.in_ok-rsf.ensures said reads)
    (c.in_ok-kbuild.ensures said reads)
    (c.in_ok-report.ensures said reads)
    (c.in_ok-trace.ensures said reads)
    (c.in_ok-white.ensures said reads)
    (c.in_ok-black.ensures said reads)

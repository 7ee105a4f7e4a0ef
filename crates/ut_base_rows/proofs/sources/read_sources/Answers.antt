use Rattle.std.proofs.Common.{Ok, ap, refl}
use Rattle.ut_base.proofs.ReadingLaws.{each_end, each_on, each_out, exit_is, lacks_says, leads_start, reads_err, reads_memory, reads_ok, reads_then}
use Rattle.ut_base_rows.specs.Errors.{job_errors}
use Rattle.ut_base_rows.specs.Sources.{one_more}
use Rattle.ut_base_rows.proofs.sources.read_sources.Goals as goal

pub loop-name-init : goal.loop-name-init
loop-name-init g c = rw c.new-texts.ensures leads_start

pub returns : goal.returns
returns g c = each_end job_errors one_more c.args.names.now c.loop-name.name-index c.loop-name-test.false c.loop-name.invariant

pub returns-in_err-text : goal.returns-in_err-text
returns-in_err-text g c =
    each_out job_errors one_more c.args.names.now c.loop-name.name-index _ c.loop-name-test.true c.name-item.is (exit_is c.from_residual.ensures.1) c.loop-name.invariant (reads_err c.in_err-text.ensures)

pub returns-in-Err : goal.returns-in-Err
returns-in-Err g c =
    each_out job_errors one_more c.args.names.now c.loop-name.name-index _ c.loop-name-test.true c.name-item.is refl c.loop-name.invariant
    (reads_then c.in_ok-text.ensures (reads_memory lacks_says))

pub loop-name-preserved : goal.loop-name-preserved
loop-name-preserved g c =
    each_on job_errors one_more c.args.names.now c.loop-name.name-index _ c.loop-name-test.true c.name-item.is c.loop-name.invariant
    (reads_then c.in_ok-text.ensures (reads_ok (ap Ok c.in-Ok.ensures)))

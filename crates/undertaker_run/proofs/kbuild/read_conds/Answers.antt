use Rattle.ut_base.proofs.ReadingLaws.{exit_is}
use Rattle.undertaker_run.proofs.WorkLaws.{conds_lacking, conds_none, conds_read, conds_refused}
use Rattle.undertaker_run.proofs.kbuild.read_conds.Goals as goal

pub returns-in_err-nothing-in-None : goal.returns-in_err-nothing-in-None
returns-in_err-nothing-in-None g c = conds_lacking c.args.root.now (exit_is c.from_residual.ensures.1)

pub returns-in_err-read_kbuild-in-Some : goal.returns-in_err-read_kbuild-in-Some
returns-in_err-read_kbuild-in-Some g c = conds_refused c.in-Some.is (exit_is c.from_residual-in_err-read_kbuild-in-Some.ensures.1) c.in_err-read_kbuild-in-Some.ensures

pub returns-in_ok-nothing-in-None : goal.returns-in_ok-nothing-in-None
returns-in_ok-nothing-in-None g c = conds_none c.in-None.is c.in_ok-nothing-in-None.ensures

pub returns-in_ok-read_kbuild-in-Some : goal.returns-in_ok-read_kbuild-in-Some
returns-in_ok-read_kbuild-in-Some g c = conds_read c.in-Some.is c.in_ok-read_kbuild-in-Some.ensures

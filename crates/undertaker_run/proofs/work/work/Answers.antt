use Rattle.ut_base.proofs.ReadingLaws.{exit_is}
use Rattle.undertaker_run.proofs.WorkLaws.{works_done, works_refused, works_unread}
use Rattle.undertaker_run.proofs.work.work.Goals as goal

pub returns-in_err-order : goal.returns-in_err-order
returns-in_err-order g c = works_refused c.in_err-order.ensures (exit_is c.from_residual.ensures.1)

pub returns-in_err-texts : goal.returns-in_err-texts
returns-in_err-texts g c = works_unread c.in_ok-order.ensures c.new-meter.ensures c.in_err-texts.ensures (exit_is c.from_residual-in_err-texts.ensures.1)

pub returns : goal.returns
returns g c = works_done c.in_ok-order.ensures c.new-meter.ensures c.in_ok-texts.ensures c.done.ensures

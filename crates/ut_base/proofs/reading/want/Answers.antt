use Rattle.ut_base.proofs.OneRead.{wants_gave, wants_refused}
use Rattle.ut_base.proofs.reading.want.Goals as goal

pub returns-in-Ok : goal.returns-in-Ok
returns-in-Ok g c = let h = c.in-Ok.ensures in wants_gave _ _ _ _ _ _ c.in-Ok.bytes
    (record { told = h.told; same = h.same; within = h.within; before = h.before; fault = h.fault; missing = h.missing; long = h.long })

pub returns-in-Err : goal.returns-in-Err
returns-in-Err g c = let h = c.in-Err.ensures in wants_refused _ _ _ _ _ _ c.in-Err.cause c.refusal.result
    (record { told = h.told; same = h.same; within = h.within; before = h.before; fault = h.fault; missing = h.missing; long = h.long }) c.refusal.ensures

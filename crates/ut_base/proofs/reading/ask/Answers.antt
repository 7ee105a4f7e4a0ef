use Rattle.std.proofs.Common.{◌∙◌, sym}
use Rattle.std.proofs.lemmas.Bool.{true≢false}
use Rattle.ut_base.proofs.OneRead.{asks_gave, asks_gone, asks_refused}
use Rattle.ut_base.proofs.reading.ask.Goals as goal

pub returns-in-Ok : goal.returns-in-Ok
returns-in-Ok g c = let h = c.in-Ok.ensures in asks_gave _ _ _ _ _ _ c.in-Ok.bytes
    (record { told = h.told; same = h.same; within = h.within; before = h.before; fault = h.fault; missing = h.missing; long = h.long })

pub returns-in-Err : goal.returns-in-Err
returns-in-Err g c = let h = c.in-Err.ensures in asks_gone _ _ _ _ _ _ c.in-Err.cause (c.is_missing.ensures.0 c.if-is_missing.true)
    (record { told = h.told; same = h.same; within = h.within; before = h.before; fault = h.fault; missing = h.missing; long = h.long })

pub returns-in-Err-2 : goal.returns-in-Err-2
returns-in-Err-2 g c =
    let h = c.in-Err.ensures in
    asks_refused _ _ _ _ _ _ c.in-Err.cause c.refusal.result (λ is. true≢false (sym (c.is_missing.ensures.1 is) ∙ c.if-is_missing.false))
    (record { told = h.told; same = h.same; within = h.within; before = h.before; fault = h.fault; missing = h.missing; long = h.long }) c.refusal.ensures

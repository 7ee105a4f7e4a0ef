-- A file that was not taken leaves the meter as it was.
use Rattle.std.proofs.Common.{ℕ, List, arith}
use Rattle.std.specs.Prelude.{Err}
use Rattle.ut_base.specs.Meter.{TakesWithin}
use Rattle.ut_base.specs.declared.limits.Limit.TheVariants as limit
use Rattle.ut_base.specs.declared.meter.TakeBad.{TakeBad}
use Rattle.ut_base.specs.declared.meter.TakeBad.TheVariants as take
use Rattle.undertaker.specs.declared.first_kconfig.bad.KconfigBad.{KconfigBad}
use Rattle.undertaker.specs.declared.first_kconfig.bad.KconfigBad.TheVariants as bad
use Rattle.undertaker.specs.FirstKconfig.File.{TreeWithin, Refuses}

-- the refusal of a file that was not taken
pub refused_within : (root : List ℕ) (before now : ℕ) (t : TakeBad) (e : KconfigBad) → TakesWithin before now (Err t) → Refuses root t e → TreeWithin root before now (Err e)
refused_within root before now t (bad.Missing file) w r = (r.0, rw r.1 at w)
refused_within root before now t (bad.ReadFault file) w r = (r.0, rw r.1 at w)
refused_within root before now t (bad.TooLarge limit.FileBytes count) w r = (r.0, rw r.1 at w)
refused_within root before now t (bad.TooLarge limit.AllBytes count) w r = rw r at w
refused_within root before now take.Missing bad.Oom w r = (omega (arith, w), omega (arith, w))
refused_within root before now take.Fault bad.Oom w r = (omega (arith, w), omega (arith, w))
refused_within root before now take.FileTooLong bad.Oom w r = (omega (arith, w), omega (arith, w))
refused_within root before now (take.AllTooLong count) bad.Oom w r = (omega (arith, w.0), omega (arith, w.0))
refused_within root before now take.Oom bad.Oom w r = (omega (arith, w), omega (arith, w))
refused_within root before now t e w r = absurd r

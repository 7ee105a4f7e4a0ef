-- How a file that `take` doesn't take is refused. This project's rule.
use Rattle.std.specs.Prelude.{◌≡◌, ◌⊎◌, ◌+◌}
use Rattle.ut_text.specs.Bytes.{Bytes}
use Rattle.ut_base.specs.Limits.{file_bytes}
use Rattle.ut_base.specs.Reading.{Errors}
use Rattle.ut_base.specs.declared.limits.Limit.TheVariants.{FileBytes, AllBytes}
use Rattle.ut_base.specs.declared.meter.TakeBad.{TakeBad}
use Rattle.ut_base.specs.declared.meter.TakeBad.TheVariants as bad

-- the refusal of this name for this cause; there may be no memory for the name
abbrev pub IsRefusedBy : {E : Type 0} → Errors E → Bytes → TakeBad → E → Type 0
IsRefusedBy errors name bad.Missing e = (e ≡ errors.missing name) ⊎ (e ≡ errors.memory)
IsRefusedBy errors name bad.Fault e = (e ≡ errors.fault name) ⊎ (e ≡ errors.memory)
IsRefusedBy errors name bad.FileTooLong e = e ≡ errors.too_large FileBytes (file_bytes + 1)
IsRefusedBy errors name (bad.AllTooLong count) e = e ≡ errors.too_large AllBytes count
IsRefusedBy errors name bad.Oom e = e ≡ errors.memory

-- The status and the line on `err` of a run that ends before its text is made. This project's rule.
use Rattle.std.specs.Prelude.{codes}
use Rattle.ut_text.specs.Bytes.{Bytes}
use Rattle.ut_base.specs.declared.limits.Limit.TheVariants.{FileBytes, AllBytes}
use Rattle.ut_base.specs.declared.meter.TakeBad.{TakeBad}
use Rattle.ut_base.specs.declared.meter.TakeBad.TheVariants as take
use Rattle.undertaker.specs.declared.first_kconfig.bad.KconfigBad.{KconfigBad}
use Rattle.undertaker.specs.declared.first_kconfig.bad.KconfigBad.TheVariants as kconf
use Rattle.undertaker.specs.ErrLines.{named_line, placed_line, limit_line}
use Rattle.undertaker.specs.declared.bad.Bad.{Bad}
use Rattle.undertaker.specs.declared.bad.Bad.TheVariants as bad
use Rattle.undertaker.specs.declared.status.Status.{Status}
use Rattle.undertaker.specs.declared.status.Status.TheVariants as status

-- a Kconfig text that was not read
abbrev pub kconf_line : KconfigBad → Bytes
kconf_line (kconf.NotYet file line) = placed_line file line (codes "not yet")
kconf_line (kconf.Missing file) = named_line file (codes "missing")
kconf_line (kconf.ReadFault file) = named_line file (codes "read fault")
kconf_line (kconf.TooLarge what count) = limit_line what count
kconf_line kconf.Oom = codes "memory"

abbrev pub kconf_status : KconfigBad → Status
kconf_status (kconf.NotYet file line) = status.Refused
kconf_status (kconf.Missing file) = status.Missing
kconf_status (kconf.ReadFault file) = status.ReadFault
kconf_status (kconf.TooLarge what count) = status.Limit
kconf_status kconf.Oom = status.Memory

-- a source that was not taken
abbrev pub take_line : Bytes → TakeBad → Bytes
take_line name take.Missing = named_line name (codes "missing")
take_line name take.Fault = named_line name (codes "read fault")
take_line name take.FileTooLong = limit_line FileBytes 16777217
take_line name (take.AllTooLong count) = limit_line AllBytes count
take_line name take.Oom = codes "memory"

abbrev pub take_status : TakeBad → Status
take_status take.Missing = status.Missing
take_status take.Fault = status.ReadFault
take_status take.FileTooLong = status.Limit
take_status (take.AllTooLong count) = status.Limit
take_status take.Oom = status.Memory

-- the line of a run that ends so, without its newline
abbrev pub bad_line : Bad → Bytes
bad_line bad.Usage = codes "undertaker: usage: words"
bad_line (bad.Kconfig b) = kconf_line b
bad_line (bad.Source name b) = take_line name b
bad_line bad.Oom = codes "memory"

-- the status of a run that ends so
abbrev pub bad_status : Bad → Status
bad_status bad.Usage = status.Usage
bad_status (bad.Kconfig b) = kconf_status b
bad_status (bad.Source name b) = take_status b
bad_status bad.Oom = status.Memory

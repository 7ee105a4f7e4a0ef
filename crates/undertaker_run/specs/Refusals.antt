-- What a refusal says: its one line on the error output, and its status. This project's rule.
use Rattle.std.specs.Prelude.{ℕ, ◌++◌, codes, decimal}
use Rattle.ut_text.specs.Bytes.{Bytes}
use Rattle.ut_base.specs.Limits.{limit_word}
use Rattle.ut_base.specs.declared.limits.Limit.{Limit}
use Rattle.ut_words.specs.declared.order.UsageKind.{UsageKind}
use Rattle.ut_words.specs.declared.order.UsageKind.TheVariants as usage
use Rattle.undertaker_run.specs.declared.bad.Bad.{Bad}
use Rattle.undertaker_run.specs.declared.bad.Bad.TheVariants as bad
use Rattle.undertaker_run.specs.declared.bad.LineKind.{LineKind}
use Rattle.undertaker_run.specs.declared.bad.LineKind.TheVariants as kind
use Rattle.undertaker_run.specs.declared.status.Status.{Status}
use Rattle.undertaker_run.specs.declared.status.Status.TheVariants as status

-- ---- forms of lines, without their newline

-- `FILE: WHAT`
abbrev pub named_line : Bytes → Bytes → Bytes
named_line file what = file ++ codes ": " ++ what

-- `FILE:LINE: WHAT`
abbrev pub placed_line : Bytes → ℕ → Bytes → Bytes
placed_line file line what = file ++ codes ":" ++ decimal line ++ codes ": " ++ what

-- `limit: WHAT COUNT`
abbrev pub limit_line : Limit → ℕ → Bytes
limit_line what count = codes "limit: " ++ limit_word what ++ codes " " ++ decimal count

-- `undertaker: usage: KIND`
abbrev pub usage_line : Bytes → Bytes
usage_line kind = codes "undertaker: usage: " ++ kind

-- ---- tables

-- the word of a usage kind
abbrev pub usage_word : UsageKind → Bytes
usage_word usage.Words = codes "words"
usage_word usage.Job = codes "job"
usage_word usage.Number = codes "number"
usage_word usage.Style = codes "style"
usage_word usage.Var = codes "var"
usage_word usage.Needs = codes "needs"
usage_word usage.File = codes "file"

-- the word of the grammar that a line isn't of
abbrev pub kind_word : LineKind → Bytes
kind_word kind.Kbuild = codes "kbuild"

-- the line of a refusal
abbrev pub line_of : Bad → Bytes
line_of (bad.Usage k) = usage_line (usage_word k)
line_of (bad.Line file line k) = placed_line file line (kind_word k)
line_of (bad.Missing file) = named_line file (codes "missing")
line_of (bad.ReadFault file) = named_line file (codes "read fault")
line_of (bad.TooLarge what count) = limit_line what count
line_of bad.Oom = codes "memory"

-- the status of a refusal
abbrev pub status_of : Bad → Status
status_of (bad.Usage k) = status.Usage
status_of (bad.Line file line k) = status.Refused
status_of (bad.Missing file) = status.Missing
status_of (bad.ReadFault file) = status.ReadFault
status_of (bad.TooLarge what count) = status.Limit
status_of bad.Oom = status.Memory

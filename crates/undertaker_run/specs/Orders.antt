-- The order that the words give to a run, or their usage kind: the job is one that is built. This project's rule.
use Rattle.std.specs.Prelude.{Bool, true, false, List, Result, Ok, Err, if◌then◌else◌}
use Rattle.ut_text.specs.Bytes.{Bytes}
use Rattle.ut_words.specs.Words as spoken
use Rattle.ut_words.specs.declared.order.Job.{Job}
use Rattle.ut_words.specs.declared.order.Job.TheVariants as job
use Rattle.ut_words.specs.declared.order.Order.{Order}
use Rattle.ut_words.specs.declared.order.UsageKind.{UsageKind}
use Rattle.ut_words.specs.declared.order.UsageKind.TheVariants as usage

-- the jobs that are built
abbrev pub is_built : Job → Bool
is_built job.Golem = true
is_built job.Dead = false
is_built job.Check = false
is_built job.Coverage = false
is_built job.Tailor = false
is_built job.Dumpconf = false
is_built job.Model = false
is_built job.Generate = false

-- an order whose job is built
abbrev pub if_built : Result Order UsageKind → Result Order UsageKind
if_built (Ok order) = if is_built order.job then Ok order else Err usage.Job
if_built (Err kind) = Err kind

-- the order of the words
abbrev pub order_of : List Bytes → Result Order UsageKind
order_of words = if_built (spoken.order_of words)

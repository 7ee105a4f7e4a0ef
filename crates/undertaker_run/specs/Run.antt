-- What the top call promises of its status, its output, and the one line on the error output. This project's rule.
use Rattle.std.specs.Prelude.{◌≡◌, ◌⊎◌, ◌+◌, ℕ, List, Option, None, Some, Result, Ok, Err, IfSome, codes}
use Rattle.std.specs.FinMap.{get}
use Rattle.ut_text.specs.Bytes.{Bytes}
use Rattle.ut_base.specs.Limits.{file_bytes}
use Rattle.ut_base.specs.Outside.{IsLonger, Rose}
use Rattle.ut_base.specs.Reading.{Reads, Stand}
use Rattle.ut_base.specs.declared.limits.Limit.{Limit}
use Rattle.ut_base.specs.declared.limits.Limit.TheVariants as limit
use Rattle.ut_words.specs.declared.order.Job.TheVariants as job
use Rattle.ut_words.specs.declared.order.Order.{Order}
use Rattle.ut_words.specs.declared.order.UsageKind.{UsageKind}
use Rattle.undertaker_run.specs.Ends.{Closes, Ends, SaysLine, SinkStand, Sinks}
use Rattle.undertaker_run.specs.Jobs.Golem.{golem_of}
use Rattle.undertaker_run.specs.Orders.{order_of}
use Rattle.undertaker_run.specs.Refusals.{kind_word, limit_line, named_line, placed_line, usage_line, usage_word}
use Rattle.undertaker_run.specs.Work.{IsOutcome, work_of}
use Rattle.undertaker_run.specs.declared.bad.Bad.{Bad}
use Rattle.undertaker_run.specs.declared.bad.Bad.TheVariants as bad
use Rattle.undertaker_run.specs.declared.bad.LineKind.{LineKind}
use Rattle.undertaker_run.specs.declared.status.Status.{Status}
use Rattle.undertaker_run.specs.declared.status.Status.TheVariants as status

-- ---- the whole run

-- the limit on one file is passed by a file that was read in this run; the others are on what was read in all
abbrev pub IsPassed : Limit → ℕ → Stand → Stand → Type 0
IsPassed limit.FileBytes count old new =
    (count ≡ file_bytes + 1) × Rose old.long new.long × IfSome old.held (λ m. (file : Bytes) × IsLonger file_bytes (get m file))
IsPassed limit.AllBytes count old new = Unit {0}
IsPassed limit.Sources count old new = Unit {0}
IsPassed limit.Symbols count old new = Unit {0}
IsPassed limit.Members count old new = Unit {0}
IsPassed limit.Defaults count old new = Unit {0}
IsPassed limit.Nesting count old new = Unit {0}
IsPassed limit.SourceDepth count old new = Unit {0}
IsPassed limit.Brackets count old new = Unit {0}
IsPassed limit.Paths count old new = Unit {0}
IsPassed limit.Wishes count old new = Unit {0}
IsPassed limit.Constants count old new = Unit {0}
IsPassed limit.Replacements count old new = Unit {0}

-- a refusal has its cause in this run: a count that rose, and what the files hold
abbrev pub IsCaused : Bad → Stand → Stand → Type 0
IsCaused (bad.Usage kind) old new = Unit {0}
IsCaused (bad.Line file line kind) old new = Unit {0}
IsCaused (bad.Missing file) old new = Rose old.missing new.missing × IfSome old.held (λ m. get m file ≡ None)
IsCaused (bad.ReadFault file) old new = Rose old.faults new.faults
IsCaused (bad.TooLarge what count) old new = IsPassed what count old new
IsCaused bad.Oom old new = Unit {0}

-- the reads of a run follow the work that its words order, over all files, and it ends by what that comes to
pub record Runs (words : List Bytes) (old new : Stand) (sinks sinks_then : Sinks) (s : Status) : Type 0 where
  pub ending : Result Bytes Bad
  pub used : ℕ
  pub reads : Reads (work_of words) old new 0 used ending
  pub caused : (e : Bad) → ending ≡ Err e → IsCaused e old new
  pub ends : Ends ending sinks sinks_then s

-- ---- by the status

-- the output is as it was, unless the run ended by writing
abbrev pub KeepsOut : Status → SinkStand → SinkStand → Type 0
KeepsOut status.Well old new = Unit {0}
KeepsOut status.Usage old new = new.taken ≡ old.taken
KeepsOut status.Refused old new = new.taken ≡ old.taken
KeepsOut status.Missing old new = new.taken ≡ old.taken
KeepsOut status.ReadFault old new = new.taken ≡ old.taken
KeepsOut status.WriteFault old new = Unit {0}
KeepsOut status.Memory old new = new.taken ≡ old.taken
KeepsOut status.Limit old new = new.taken ≡ old.taken
KeepsOut status.Wrong old new = new.taken ≡ old.taken

-- the one line on the error output
abbrev pub SaysWhy : List Bytes → Status → SinkStand → SinkStand → Type 0
SaysWhy words status.Well old new = new.taken ≡ old.taken
SaysWhy words status.Usage old new = (kind : UsageKind) × (order_of words ≡ Err kind) × SaysLine (usage_line (usage_word kind)) old new
SaysWhy words status.Refused old new = (file : Bytes) × (line : ℕ) × (kind : LineKind) × SaysLine (placed_line file line (kind_word kind)) old new
SaysWhy words status.Missing old new = (file : Bytes) × SaysLine (named_line file (codes "missing")) old new
SaysWhy words status.ReadFault old new = (file : Bytes) × SaysLine (named_line file (codes "read fault")) old new
SaysWhy words status.WriteFault old new = SaysLine (codes "output: write fault") old new
SaysWhy words status.Memory old new = SaysLine (codes "memory") old new
SaysWhy words status.Limit old new = (what : Limit) × (count : ℕ) × SaysLine (limit_line what count) old new
SaysWhy words status.Wrong old new = ⊥

-- the status is Usage exactly where the words are of another form, but for want of memory
abbrev pub IsUsage : Result Order UsageKind → Status → Type 0
IsUsage (Err kind) s = (s ≡ status.Usage) ⊎ (s ≡ status.Memory)
IsUsage (Ok order) s = s ≡ status.Usage → ⊥

-- ---- over the files that are held

-- the status is no fault and no want of memory
abbrev pub IsSettledBy : Status → Type 0
IsSettledBy s = (s ≡ status.ReadFault → ⊥) × (s ≡ status.Memory → ⊥)

-- but for a fault and want of memory, the status is that of what the words and the files come to
pub record IsExact (files : Bytes → Option Bytes) (words : List Bytes) (s : Status) : Type 0 where
  pub some : IsSettledBy s → (outcome : Result Bytes Bad) × IsOutcome files words outcome × Closes outcome s
  pub each : IsSettledBy s → (outcome : Result Bytes Bad) → IsOutcome files words outcome → Closes outcome s

-- where the files come to a text, and no fault was counted, the run ends well, but for want of memory
abbrev pub IsComplete : (Bytes → Option Bytes) → List Bytes → (calm : Type 0) → Status → Type 0
IsComplete files words calm s = (text : Bytes) → IsOutcome files words (Ok text) → calm → (s ≡ status.Well) ⊎ (s ≡ status.Memory)

-- no fault was counted, of the files or of the output
pub record IsCalm (old new : Stand) (out out_then : SinkStand) : Type 0 where
  pub read : Rose old.faults new.faults → ⊥
  pub wrote : Rose out.faults out_then.faults → ⊥

-- job golem ends by its text over the files, or by its first refusal, but for a fault and want of memory
abbrev pub IsGolemRun : (Bytes → Option Bytes) → List Bytes → Sinks → Sinks → Status → Type 0
IsGolemRun files words old new s = (order : Order) (root : Bytes) → order_of words ≡ Ok order → order.job ≡ job.Golem → order.kbuild ≡ Some root
    → IsSettledBy s → Ends (golem_of files root) old new s

-- What the parts of a run promise each other.
use Rattle.std.specs.Prelude.{◌≡◌, ◌⊎◌, ℕ, List, Result, Ok, Err, codes}
use Rattle.ut_text.specs.Bytes.{Bytes}
use Rattle.ut_base.specs.Reading.{Reads, Stand}
use Rattle.ut_words.specs.declared.order.Order.{Order}
use Rattle.ut_words.specs.declared.order.UsageKind.{UsageKind}
use Rattle.undertaker_run.specs.Ends.{SaysLine, SinkStand}
use Rattle.undertaker_run.specs.Refusals.{line_of, status_of}
use Rattle.undertaker_run.specs.Work.{work_of}
use Rattle.undertaker_run.specs.declared.bad.Bad.{Bad}
use Rattle.undertaker_run.specs.declared.bad.Bad.TheVariants as bad
use Rattle.undertaker_run.specs.declared.status.Status.{Status}
use Rattle.undertaker_run.specs.declared.status.Status.TheVariants as status

-- the order, its usage kind, or want of memory
abbrev pub IsOrdered : Result Order UsageKind → Result Order Bad → Type 0
IsOrdered said (Ok order) = said ≡ Ok order
IsOrdered said (Err (bad.Usage kind)) = said ≡ Err kind
IsOrdered said (Err (bad.Line file line kind)) = ⊥
IsOrdered said (Err (bad.Missing file)) = ⊥
IsOrdered said (Err (bad.ReadFault file)) = ⊥
IsOrdered said (Err (bad.TooLarge what count)) = ⊥
IsOrdered said (Err bad.Oom) = Unit {0}

-- such an answer, or want of memory
abbrev pub OrMemory : (Result Bytes Bad → Type 0) → Result Bytes Bad → Type 0
OrMemory is r = is r ⊎ (r ≡ Err bad.Oom)

-- the reads follow the work of the words
pub record Works (words : List Bytes) (old new : Stand) (r : Result Bytes Bad) : Type 0 where
  pub used : ℕ
  pub reads : Reads (work_of words) old new 0 used r

-- a refusal is reported, or there was no memory for its line
abbrev pub Reports : Bad → Status → SinkStand → SinkStand → Type 0
Reports e s old new = ((s ≡ status_of e) × SaysLine (line_of e) old new) ⊎ ((s ≡ status.Memory) × SaysLine (codes "memory") old new)

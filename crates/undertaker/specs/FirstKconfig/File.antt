-- What the call on the first form answers about the file that it reads, and about the meter.
-- This project's rule: 16,777,216 bytes for one file and 536,870,912 for all files of a run.
use Rattle.std.specs.Prelude.{◌≡◌, ◌<◌, ◌≤◌, ◌+◌, ℕ, length, Option, Some, None, Result, Ok, Err}
use Rattle.ut_text.specs.Bytes.{Bytes}
use Rattle.ut_base.specs.Outside.{IsLonger}
use Rattle.ut_base.specs.declared.limits.Limit.TheVariants as limit
use Rattle.ut_base.specs.declared.meter.TakeBad.{TakeBad}
use Rattle.ut_base.specs.declared.meter.TakeBad.TheVariants as take
use Rattle.undertaker.specs.declared.first_kconfig.bad.KconfigBad.{KconfigBad}
use Rattle.undertaker.specs.declared.first_kconfig.bad.KconfigBad.TheVariants as bad
use Rattle.kconf_entries.specs.declared.entries.Entries.{Entries}
use Rattle.undertaker.specs.declared.first_bad.FirstBad.{FirstBad}
use Rattle.undertaker.specs.declared.first_bad.FirstBad.TheVariants as first
use Rattle.undertaker.specs.FirstKconfig.Form.{first_tree_of}

-- the file's bytes, which are no more than one file may have, read so
pub record ReadsHeld (content : Option Bytes) (read : Result Entries ℕ) : Type 0 where
  pub bytes : Bytes
  pub held : content ≡ Some bytes
  pub file : length bytes ≤ 16777216
  pub reads : first_tree_of bytes ≡ read

-- the answer for a root text whose bytes, if there is such a file, are these
abbrev pub TreeFrom : Option Bytes → Bytes → ℕ → Result Entries KconfigBad → Type 0
TreeFrom content root used (Ok entries) = ReadsHeld content (Ok entries)
TreeFrom content root used (Err (bad.NotYet file line)) = ReadsHeld content (Err line)
TreeFrom content root used (Err (bad.Missing file)) = content ≡ None
TreeFrom content root used (Err (bad.ReadFault file)) = Unit {0}
TreeFrom content root used (Err (bad.TooLarge limit.FileBytes count)) = IsLonger 16777216 content
TreeFrom content root used (Err (bad.TooLarge what count)) = (bytes : Bytes) × (content ≡ Some bytes) × (count ≡ used + length bytes)
TreeFrom content root used (Err bad.Oom) = Unit {0}

-- bytes that were taken within both limits read so
pub record ReadsTaken (before now : ℕ) (read : Result Entries ℕ) : Type 0 where
  pub bytes : Bytes
  pub reads : first_tree_of bytes ≡ read
  pub taken : now ≡ before + length bytes
  pub file : length bytes ≤ 16777216
  pub all : now ≤ 536870912

-- which refusals there are, what they name, and what the meter holds afterwards
abbrev pub TreeWithin : Bytes → ℕ → ℕ → Result Entries KconfigBad → Type 0
TreeWithin root before now (Ok entries) = ReadsTaken before now (Ok entries)
TreeWithin root before now (Err (bad.NotYet file line)) = (file ≡ root) × ReadsTaken before now (Err line)
TreeWithin root before now (Err (bad.Missing file)) = (file ≡ root) × (now ≡ before)
TreeWithin root before now (Err (bad.ReadFault file)) = (file ≡ root) × (now ≡ before)
TreeWithin root before now (Err (bad.TooLarge limit.FileBytes count)) = (count ≡ 16777217) × (now ≡ before)
TreeWithin root before now (Err (bad.TooLarge limit.AllBytes count)) = (now ≡ before) × (536870912 < count) × (count ≤ before + 16777216)
TreeWithin root before now (Err bad.Oom) = (before ≤ now) × (now ≤ before + 16777216)
TreeWithin root before now (Err e) = ⊥

-- which answer each cause has
abbrev pub IsMissing : Result Entries KconfigBad → Type 0
IsMissing (Err (bad.Missing file)) = Unit {0}
IsMissing result = ⊥

abbrev pub IsReadFault : Result Entries KconfigBad → Type 0
IsReadFault (Err (bad.ReadFault file)) = Unit {0}
IsReadFault result = ⊥

abbrev pub IsTooLong : Result Entries KconfigBad → Type 0
IsTooLong (Err (bad.TooLarge limit.FileBytes count)) = Unit {0}
IsTooLong result = ⊥

-- the refusal of a file that was not taken
abbrev pub Refuses : Bytes → TakeBad → KconfigBad → Type 0
Refuses root taken (bad.Missing file) = (file ≡ root) × (taken ≡ take.Missing)
Refuses root taken (bad.ReadFault file) = (file ≡ root) × (taken ≡ take.Fault)
Refuses root taken (bad.TooLarge limit.FileBytes count) = (count ≡ 16777217) × (taken ≡ take.FileTooLong)
Refuses root taken (bad.TooLarge limit.AllBytes count) = taken ≡ take.AllTooLong count
Refuses root taken bad.Oom = Unit {0}
Refuses root taken e = ⊥

-- the refusal of a text that is not of the form
abbrev pub Names : Bytes → FirstBad → KconfigBad → Type 0
Names root found (bad.NotYet file line) = (file ≡ root) × (found ≡ first.NotYet line)
Names root found bad.Oom = Unit {0}
Names root found e = ⊥

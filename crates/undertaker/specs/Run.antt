-- How a run ends: its status, what it wrote, and its one line on `err`. This project's rule.
use Rattle.std.specs.Prelude.{◌≡◌, ◌⊎◌, ℕ, [], ◌++◌, Option, Some, None, Result, Ok, Err, codes}
use Rattle.ut_text.specs.Bytes.{Bytes}
use Rattle.ut_base.specs.Outside.{Rose, with_more}
use Rattle.ut_base.specs.declared.limits.Limit.{Limit}
use Rattle.ut_base.specs.declared.limits.Limit.TheVariants.{FileBytes}
use Rattle.undertaker.specs.declared.bad.Bad.{Bad}
use Rattle.undertaker.specs.declared.status.Status.{Status}
use Rattle.undertaker.specs.declared.status.Status.TheVariants as status
use Rattle.undertaker.specs.ErrLines.{named_line, placed_line, limit_line}
use Rattle.undertaker.specs.Lines.{ended}
use Rattle.undertaker.specs.Outcome.{Refusal, usage, refused, missing, limit, Texts, refusal_line}
use Rattle.undertaker.specs.Refusals.{bad_line, bad_status}
use Rattle.undertaker.specs.Written.{IsText}

-- ---- the status

-- the status is that of the outcome, but for faults and want of memory
abbrev pub EndsBy : Result Texts Refusal → Status → Type 0
EndsBy outcome status.Well = (texts : Texts) × (outcome ≡ Ok texts)
EndsBy outcome status.Usage = outcome ≡ Err usage
EndsBy outcome status.Refused = (name : Bytes) × (line : ℕ) × (outcome ≡ Err (refused name line))
EndsBy outcome status.Missing = (name : Bytes) × (outcome ≡ Err (missing name))
EndsBy outcome status.ReadFault = Unit {0}
EndsBy outcome status.WriteFault = (texts : Texts) × (outcome ≡ Ok texts)
EndsBy outcome status.Memory = Unit {0}
EndsBy outcome status.Limit = (what : Limit) × (count : ℕ) × (outcome ≡ Err (limit what count))
EndsBy outcome status.Wrong = ⊥

-- the words name no two files exactly where that is the answer
abbrev pub IsUsage : Option (Bytes × Bytes) → Status → Type 0
IsUsage names status.Usage = names ≡ None
IsUsage names status.Memory = Unit {0}
IsUsage names s = (pair : Bytes × Bytes) × (names ≡ Some pair)

-- ---- `out`

-- the report is written whole, or up to a fault
abbrev pub Writes : Option Bytes → Option Bytes → Result Texts Refusal → Status → Type 0
Writes old new outcome status.Well =
    (texts : Texts) × (text : Bytes) × (outcome ≡ Ok texts) × IsText texts text × (new ≡ with_more old text)
Writes old new outcome status.WriteFault =
    (texts : Texts) × (part : Bytes) × (rest : Bytes) × (outcome ≡ Ok texts) × IsText texts (part ++ rest) × (new ≡ with_more old part)
Writes old new outcome s = Unit {0}

-- nothing was written, where the run was refused
abbrev pub KeepsOut : Option Bytes → Option Bytes → Status → Type 0
KeepsOut old new status.Well = Unit {0}
KeepsOut old new status.WriteFault = Unit {0}
KeepsOut old new s = new ≡ old

-- ---- `err`

module _ {E : Type 0} (taken : E → Option Bytes) (faults : E → ℕ) where
  -- the bytes, or a part of them from the front where the count of faults rose
  abbrev pub SaysAll : E → E → Bytes → Type 0
  SaysAll old new bytes = (part : Bytes) × (rest : Bytes) × (bytes ≡ part ++ rest) × (taken new ≡ with_more (taken old) part)
      × ((rest ≡ []) ⊎ Rose (faults old) (faults new))

  -- the line with its newline
  abbrev pub Tells : E → E → Bytes → Type 0
  Tells old new line = SaysAll old new (ended line)

  -- the same for one of two files
  abbrev pub TellsEither : E → E → Bytes × Bytes → Bytes → Type 0
  TellsEither old new pair what = Tells old new (named_line pair.0 what) ⊎ Tells old new (named_line pair.1 what)

  -- the one line, whatever the files hold
  abbrev pub TellsOne : E → E → Option (Bytes × Bytes) → Status → Type 0
  TellsOne old new names status.Well = taken new ≡ taken old
  TellsOne old new names status.Usage = Tells old new (refusal_line usage)
  TellsOne old new names status.Refused =
      (pair : Bytes × Bytes) × (line : ℕ) × (names ≡ Some pair) × Tells old new (placed_line pair.0 line (codes "not yet"))
  TellsOne old new names status.Missing = (pair : Bytes × Bytes) × (names ≡ Some pair) × TellsEither old new pair (codes "missing")
  TellsOne old new names status.ReadFault = (pair : Bytes × Bytes) × (names ≡ Some pair) × TellsEither old new pair (codes "read fault")
  TellsOne old new names status.WriteFault = Tells old new (codes "output: write fault")
  TellsOne old new names status.Memory = Tells old new (codes "memory")
  TellsOne old new names status.Limit = Tells old new (limit_line FileBytes 16777217)
  TellsOne old new names status.Wrong = ⊥

  -- the line of the outcome, where the files tell what they hold
  abbrev pub TellsOutcome : E → E → Result Texts Refusal → Status → Type 0
  TellsOutcome old new outcome status.Usage = Tells old new (refusal_line usage)
  TellsOutcome old new outcome status.Refused = (r : Refusal) × (outcome ≡ Err r) × Tells old new (refusal_line r)
  TellsOutcome old new outcome status.Missing = (r : Refusal) × (outcome ≡ Err r) × Tells old new (refusal_line r)
  TellsOutcome old new outcome status.Limit = (r : Refusal) × (outcome ≡ Err r) × Tells old new (refusal_line r)
  TellsOutcome old new outcome s = Unit {0}

-- ---- between the steps

-- the status of a refusal, or want of memory for its line
abbrev pub EndsWith : Bad → Status → Type 0
EndsWith b s = (s ≡ bad_status b) ⊎ (s ≡ status.Memory)

-- the line that goes with it
abbrev pub line_at : Bad → Status → Bytes
line_at b status.Memory = codes "memory"
line_at b s = bad_line b

-- all lines were written, or a part of them from the front
abbrev pub WritesLines : Option Bytes → Option Bytes → Bytes → Status → Type 0
WritesLines old new text status.Well = new ≡ with_more old text
WritesLines old new text status.WriteFault = (part : Bytes) × (rest : Bytes) × (text ≡ part ++ rest) × (new ≡ with_more old part)
WritesLines old new text s = ⊥

-- a fault is told
abbrev pub TellsFault : {E : Type 0} → (E → Option Bytes) → (E → ℕ) → E → E → Status → Type 0
TellsFault taken faults old new status.Well = taken new ≡ taken old
TellsFault taken faults old new status.WriteFault = Tells taken faults old new (codes "output: write fault")
TellsFault taken faults old new s = ⊥

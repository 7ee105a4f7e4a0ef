-- What the steps of a run promise each other: what they read, or why the run ends.
use Rattle.std.specs.Prelude.{◌≡◌, ℕ, Option, Some, None, Vec, Result, Ok, Err}
use Rattle.std.specs.List.{concat}
use Rattle.std.specs.declared.alloc.Global.{Global}
use Rattle.ut_text.specs.Bytes.{Bytes}
use Rattle.ut_base.specs.declared.limits.Limit.TheVariants.{FileBytes, AllBytes}
use Rattle.ut_base.specs.declared.meter.TakeBad.{TakeBad}
use Rattle.ut_base.specs.declared.meter.TakeBad.TheVariants as take
use Rattle.undertaker.specs.declared.first_kconfig.bad.KconfigBad.{KconfigBad}
use Rattle.undertaker.specs.declared.first_kconfig.bad.KconfigBad.TheVariants as kconf
use Rattle.kconf_entries.specs.declared.entries.Entries.{Entries}
use Rattle.undertaker.specs.Outcome.{Refusal, usage, refused, missing, limit, Texts, taken, entries_of}
use Rattle.undertaker.specs.Refusals.{bad_status}
use Rattle.undertaker.specs.Written.{IsText}
use Rattle.undertaker.specs.declared.bad.Bad.{Bad}
use Rattle.undertaker.specs.declared.bad.Bad.TheVariants as bad
use Rattle.undertaker.specs.declared.status.Status.{Status}

module _ {A : Type 0} where
  -- a run that ends so has this status
  abbrev pub EndsAs : Result A Bad → Status → Type 0
  EndsAs (Ok x) s = ⊥
  EndsAs (Err b) s = bad_status b ≡ s

  -- the refusal is this one; a fault and want of memory may come in its place
  abbrev pub TakeRefuses : Result A Refusal → Bytes → TakeBad → Type 0
  TakeRefuses outcome name take.Missing = outcome ≡ Err (missing name)
  TakeRefuses outcome name take.Fault = Unit {0}
  TakeRefuses outcome name take.FileTooLong = outcome ≡ Err (limit FileBytes 16777217)
  TakeRefuses outcome name (take.AllTooLong count) = outcome ≡ Err (limit AllBytes count)
  TakeRefuses outcome name take.Oom = Unit {0}

  abbrev pub KconfRefuses : Result A Refusal → KconfigBad → Type 0
  KconfRefuses outcome (kconf.NotYet file line) = outcome ≡ Err (refused file line)
  KconfRefuses outcome (kconf.Missing file) = outcome ≡ Err (missing file)
  KconfRefuses outcome (kconf.ReadFault file) = Unit {0}
  KconfRefuses outcome (kconf.TooLarge what count) = outcome ≡ Err (limit what count)
  KconfRefuses outcome kconf.Oom = Unit {0}

  abbrev pub Refuses : Result A Refusal → Bad → Type 0
  Refuses outcome bad.Usage = outcome ≡ Err usage
  Refuses outcome (bad.Kconfig b) = KconfRefuses outcome b
  Refuses outcome (bad.Source name b) = TakeRefuses outcome name b
  Refuses outcome bad.Oom = Unit {0}

-- the Kconfig text was taken, and has these entries
abbrev pub ReadsEntries : Bytes → Option Bytes → Result Entries Bad → Type 0
ReadsEntries name content (Ok entries) = entries_of name content ≡ Ok entries
ReadsEntries name content (Err b) = Refuses (entries_of name content) b

-- the source was taken
abbrev pub ReadsSource : Bytes → Option Bytes → Result (Vec ℕ Global) Bad → Type 0
ReadsSource name content (Ok bytes) = taken name content ≡ Ok bytes.items
ReadsSource name content (Err b) = Refuses (taken name content) b

-- the lines of the text, or why there are none
abbrev pub Gathers : Result Texts Refusal → Result (Vec Bytes Global) Bad → Type 0
Gathers outcome (Ok lines) = (texts : Texts) × (outcome ≡ Ok texts) × IsText texts (concat lines.items)
Gathers outcome (Err b) = Refuses outcome b

-- which file a refusal of the Kconfig text names, and which limit it passes
abbrev pub KconfNames : Bytes → KconfigBad → Type 0
KconfNames name (kconf.NotYet file line) = file ≡ name
KconfNames name (kconf.Missing file) = file ≡ name
KconfNames name (kconf.ReadFault file) = file ≡ name
KconfNames name (kconf.TooLarge what count) = (what ≡ FileBytes) × (count ≡ 16777217)
KconfNames name kconf.Oom = Unit {0}

-- one source after one Kconfig text can't pass the limit on all bytes
abbrev pub TakeNames : Bytes → Bytes → TakeBad → Type 0
TakeNames source name (take.AllTooLong count) = ⊥
TakeNames source name take.Missing = source ≡ name
TakeNames source name take.Fault = source ≡ name
TakeNames source name take.FileTooLong = source ≡ name
TakeNames source name take.Oom = source ≡ name

module _ {A : Type 0} where
  -- a refusal names the files that the words name, and the words are refused where they name none
  abbrev pub Names : Option (Bytes × Bytes) → Result A Bad → Type 0
  Names names (Ok x) = (pair : Bytes × Bytes) × (names ≡ Some pair)
  Names names (Err bad.Usage) = names ≡ None
  Names names (Err (bad.Kconfig b)) = (pair : Bytes × Bytes) × (names ≡ Some pair) × KconfNames pair.0 b
  Names names (Err (bad.Source name b)) = (pair : Bytes × Bytes) × (names ≡ Some pair) × TakeNames pair.1 name b
  Names names (Err bad.Oom) = Unit {0}

  -- the same for the Kconfig text and for the source alone
  abbrev pub NamesKconfig : Bytes → Result A Bad → Type 0
  NamesKconfig name (Ok x) = Unit {0}
  NamesKconfig name (Err (bad.Kconfig b)) = KconfNames name b
  NamesKconfig name (Err b) = ⊥

  abbrev pub NamesSource : Bytes → Result A Bad → Type 0
  NamesSource source (Ok x) = Unit {0}
  NamesSource source (Err (bad.Source name b)) = TakeNames source name b
  NamesSource source (Err bad.Oom) = Unit {0}
  NamesSource source (Err b) = ⊥

-- the source was not taken, or there was no memory for its name
abbrev pub IsBadOf : Bytes → TakeBad → Bad → Type 0
IsBadOf source b bad.Usage = ⊥
IsBadOf source b (bad.Kconfig k) = ⊥
IsBadOf source b (bad.Source name found) = (source ≡ name) × (found ≡ b)
IsBadOf source b bad.Oom = Unit {0}

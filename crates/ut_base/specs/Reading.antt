-- Reading as steps. A step relates the bytes taken before, the reads that came, the bytes taken afterwards, and what it
-- comes to: a value or a refusal. One clause `Reads step ..` of a function that reads says what it answers, how it keeps
-- the limits and what its reads do to the counts, over all files. This project's rule.
use Rattle.std.specs.Prelude.{◌≡◌, ◌⊎◌, ◌<◌, ◌≤◌, ◌+◌, ◌++◌, ℕ, List, [], ◌∷◌, length, Option, Some, None, Result, Ok, Err, IfSome}
use Rattle.std.specs.FinMap.{get}
use Rattle.std.specs.List.{AllByRecursion}
use Rattle.std.specs.Result.{result_map_both}
use Rattle.ut_text.specs.Bytes.{Bytes}
use Rattle.ut_base.specs.Limits.{file_bytes, all_bytes}
use Rattle.ut_base.specs.Outside.{Held, HasCause, IsLonger}
use Rattle.ut_base.specs.declared.limits.Limit.{Limit}
use Rattle.ut_base.specs.declared.limits.Limit.TheVariants.{FileBytes, AllBytes}
use Rattle.ut_base.specs.declared.outside.Files.{Ghosts}

-- what one read of a name brought: its bytes; only its size, where that passes the limit on all files; no such file; a
-- file past the limit on one file; or a fault
pub data Came : Type 0 where
  Gave : Bytes → Bytes → Came
  Over : Bytes → ℕ → Came
  Gone : Bytes → Came
  TooLong : Bytes → Came
  Broke : Bytes → Came

-- the refusals that reading makes by itself, and which others there are
pub record Errors (E : Type 0) : Type 1 where
  pub missing : Bytes → E
  pub fault : Bytes → E
  pub too_large : Limit → ℕ → E
  pub memory : E
  pub IsOwn : E → Type 0

-- bytes taken before, the reads that came, bytes taken afterwards, and what it comes to
abbrev pub Step : Type 0 → Type 0 → Type 1
Step A E = ℕ → List Came → ℕ → Result A E → Type 0

-- one step, and then that of its value: a value leads on from a front of the reads, and a refusal ends
infixl 10 ◌>>=◌
pub data ◌>>=◌ {A B E : Type 0} (s : Step A E) (f : A → Step B E) (used : ℕ) (came : List Came) (now : ℕ) (r : Result B E) : Type 0 where
  Led : (x : A) (mid : ℕ) (front rest : List Came) → came ≡ front ++ rest → s used front mid (Ok x) → f x mid rest now r → (s >>= f) used came now r
  Ended : (e : E) → s used came now (Err e) → r ≡ Err e → (s >>= f) used came now r

-- the same step, each refusal turned into another
pub record turned {A D E : Type 0} (g : D → E) (s : Step A D) (used : ℕ) (came : List Came) (now : ℕ) (r : Result A E) : Type 0 where
  pub before : Result A D
  pub follows : s used came now before
  pub answer : r ≡ result_map_both (λ x. x) g before

-- the bytes taken after a read
abbrev pub used_after : ℕ → Came → ℕ
used_after used (Gave name bytes) = used + length bytes
used_after used (Over name size) = used
used_after used (Gone name) = used
used_after used (TooLong name) = used
used_after used (Broke name) = used

-- a read of this name, after so many bytes, may bring this: both limits are kept, or the one that is named is passed
abbrev pub MayBring : Bytes → ℕ → Came → Type 0
MayBring name used (Gave n bytes) = (n ≡ name) × (length bytes ≤ file_bytes) × (used + length bytes ≤ all_bytes)
MayBring name used (Over n size) = (n ≡ name) × (size ≤ file_bytes) × (all_bytes < used + size)
MayBring name used (Gone n) = n ≡ name
MayBring name used (TooLong n) = n ≡ name
MayBring name used (Broke n) = n ≡ name

module _ {E : Type 0} (errors : Errors E) where
  -- a value, or a refusal that is none of reading's
  abbrev pub IsOwnOrOk : {A : Type 0} → Result A E → Type 0
  IsOwnOrOk (Ok x) = Unit {0}
  IsOwnOrOk (Err e) = errors.IsOwn e

  -- no read, and such an answer; want of memory may come in its place
  pub record says {A : Type 0} (is : Result A E → Type 0) (used : ℕ) (came : List Came) (now : ℕ) (r : Result A E) : Type 0 where
    pub reads_nothing : came ≡ []
    pub takes_nothing : now ≡ used
    pub answer : (is r × IsOwnOrOk r) ⊎ (r ≡ Err errors.memory)

  -- what a read comes to where a missing file is no refusal
  abbrev pub found : ℕ → Came → Result (Option Bytes) E
  found used (Gave name bytes) = Ok (Some bytes)
  found used (Over name size) = Err (errors.too_large AllBytes (used + size))
  found used (Gone name) = Ok None
  found used (TooLong name) = Err (errors.too_large FileBytes (file_bytes + 1))
  found used (Broke name) = Err (errors.fault name)

  -- what a read comes to where a missing file is refused
  abbrev pub needed : ℕ → Came → Result Bytes E
  needed used (Gave name bytes) = Ok bytes
  needed used (Over name size) = Err (errors.too_large AllBytes (used + size))
  needed used (Gone name) = Err (errors.missing name)
  needed used (TooLong name) = Err (errors.too_large FileBytes (file_bytes + 1))
  needed used (Broke name) = Err (errors.fault name)

  -- one read of this name and its answer, or want of memory in its place
  pub data one_read {A : Type 0} (answer : ℕ → Came → Result A E) (name : Bytes) (used : ℕ) (came : List Came) (now : ℕ) (r : Result A E) : Type 0 where
    Read : (c : Came) → came ≡ c ∷ [] → MayBring name used c → now ≡ used_after used c → r ≡ answer used c → one_read answer name used came now r
    Lacked : came ≡ [] → now ≡ used → r ≡ Err errors.memory → one_read answer name used came now r

  -- a file's bytes, or None where there is no such file
  abbrev pub asked : Bytes → Step (Option Bytes) E
  asked = one_read found

  -- the bytes of a file that has to exist
  abbrev pub wanted : Bytes → Step Bytes E
  wanted = one_read needed

  -- one step for each item, in order, each from what those before it came to
  abbrev pub each : {N A : Type 0} → (A → N → Step A E) → A → List N → Step A E
  each step x [] = says (λ r. r ≡ Ok x)
  each step x (n ∷ ns) = step x n >>= λ y. each step y ns

-- a read that didn't fail brought what these files hold
abbrev pub Agrees : (Bytes → Option Bytes) → Came → Type 0
Agrees files (Gave name bytes) = files name ≡ Some bytes
Agrees files (Over name size) = (bytes : Bytes) × (files name ≡ Some bytes) × (size ≡ length bytes)
Agrees files (Gone name) = files name ≡ None
Agrees files (TooLong name) = IsLonger file_bytes (files name)
Agrees files (Broke name) = Unit {0}

-- some read is such
abbrev pub SomeRead : (Came → Type 0) → List Came → Type 0
SomeRead Is [] = ⊥
SomeRead Is (c ∷ cs) = Is c ⊎ SomeRead Is cs

-- a read that failed
abbrev pub IsBroke : Came → Type 0
IsBroke (Gave name bytes) = ⊥
IsBroke (Over name size) = ⊥
IsBroke (Gone name) = ⊥
IsBroke (TooLong name) = ⊥
IsBroke (Broke name) = Unit {0}

-- a read that found no file
abbrev pub IsGone : Came → Type 0
IsGone (Gave name bytes) = ⊥
IsGone (Over name size) = ⊥
IsGone (Gone name) = Unit {0}
IsGone (TooLong name) = ⊥
IsGone (Broke name) = ⊥

-- a read that found a file past the limit on one file
abbrev pub IsTooLong : Came → Type 0
IsTooLong (Gave name bytes) = ⊥
IsTooLong (Over name size) = ⊥
IsTooLong (Gone name) = ⊥
IsTooLong (TooLong name) = Unit {0}
IsTooLong (Broke name) = ⊥

-- what files show at one time: what they hold, where that is known, and their counts
pub record Stand : Type 0 where
  pub held : Option Held
  pub faults : ℕ
  pub missing : ℕ
  pub long : ℕ

-- what files of a type show, by its trait
abbrev pub stand : {F : Type 0} → Ghosts F → F → Stand
stand shows f = record { held = shows.held f; faults = shows.faults f; missing = shows.missing f; long = shows.long f }

-- the reads of a call: they follow the step, agree with what is held where that is known, and leave it as it is; and
-- where a read failed, found no file or one that is too long, its count rose
pub record Reads {A E : Type 0} (step : Step A E) (old new : Stand) (used now : ℕ) (result : Result A E) : Type 0 where
  pub came : List Came
  pub follows : step used came now result
  pub agrees : IfSome old.held (λ m. AllByRecursion (Agrees (get m)) came)
  pub same : new.held ≡ old.held
  pub broke : HasCause old.faults new.faults (SomeRead IsBroke came)
  pub gone : HasCause old.missing new.missing (SomeRead IsGone came)
  pub too_long : HasCause old.long new.long (SomeRead IsTooLong came)

-- in a loop: whatever the reads that are left come to, all reads since the start come to
pub record LeadsTo {A E : Type 0} (whole : Step A E) (start : Stand) (before : ℕ) (left : Step A E) (here : Stand) (used : ℕ) : Type 0 where
  pub leads : (new : Stand) (now : ℕ) (r : Result A E) → Reads left here new used now r → Reads whole start new before now r

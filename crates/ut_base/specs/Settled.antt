-- What steps come to over given files, and which read each refusal rests on. This project's rule.
use Rattle.std.specs.Prelude.{◌≡◌, ◌⊎◌, ◌+◌, ℕ, List, [], Option, Result, Ok, Err}
use Rattle.std.specs.List.{AllByRecursion}
use Rattle.ut_text.specs.Bytes.{Bytes}
use Rattle.ut_base.specs.Limits.{file_bytes}
use Rattle.ut_base.specs.Reading.{Came, Gave, Over, Gone, TooLong, Broke, Errors, Step, Agrees, SomeRead, IsBroke}
use Rattle.ut_base.specs.declared.limits.Limit.TheVariants.{FileBytes, AllBytes}

-- two answers are the same refusal, or two values that are alike
abbrev pub AreAlike : {A E : Type 0} → (A → A → Type 0) → Result A E → Result A E → Type 0
AreAlike Same (Ok x) (Ok y) = Same x y
AreAlike Same (Ok x) (Err e) = ⊥
AreAlike Same (Err d) (Ok y) = ⊥
AreAlike Same (Err d) (Err e) = d ≡ e

module _ {E : Type 0} (errors : Errors E) where
  -- a read failed, or memory was wanting
  abbrev pub IsCut : {A : Type 0} → List Came → Result A E → Type 0
  IsCut came r = SomeRead IsBroke came ⊎ (r ≡ Err errors.memory)

  -- over these files any two ways through a step come to alike answers with the same bytes taken, unless one is cut
  pub record IsSettled {A : Type 0} (Same : A → A → Type 0) (files : Bytes → Option Bytes) (s : Step A E) : Type 0 where
    pub alike : (used n k : ℕ) (cs ds : List Came) (r q : Result A E) → AllByRecursion (Agrees files) cs → AllByRecursion (Agrees files) ds
        → s used cs n r → s used ds k q → IsCut cs r ⊎ (IsCut ds q ⊎ ((n ≡ k) × AreAlike Same r q))

  -- over these files a step comes to this: by reads of which none failed, and with memory at hand
  pub record ComesTo {A : Type 0} (files : Bytes → Option Bytes) (s : Step A E) (used now : ℕ) (r : Result A E) : Type 0 where
    pub came : List Came
    pub follows : s used came now r
    pub agrees : AllByRecursion (Agrees files) came
    pub uncut : IsCut came r → ⊥

  -- a refusal that this read may bring about
  abbrev pub MayRefuse : E → Came → Type 0
  MayRefuse e (Gave name bytes) = ⊥
  MayRefuse e (Over name size) = (count : ℕ) × (e ≡ errors.too_large AllBytes count)
  MayRefuse e (Gone name) = e ≡ errors.missing name
  MayRefuse e (TooLong name) = e ≡ errors.too_large FileBytes (file_bytes + 1)
  MayRefuse e (Broke name) = e ≡ errors.fault name

  -- a refusal has its reason: it is none of reading's, memory was wanting, or a read brought it about
  abbrev pub HasReason : E → List Came → Type 0
  HasReason e came = errors.IsOwn e ⊎ ((e ≡ errors.memory) ⊎ SomeRead (MayRefuse e) came)

  -- each refusal of a step has its reason
  pub record IsHonest {A : Type 0} (s : Step A E) : Type 0 where
    pub reason : (used now : ℕ) (came : List Came) (e : E) → s used came now (Err e) → HasReason e came

  -- want of memory may end this step before its first read
  pub record MayLackMemory {A : Type 0} (s : Step A E) : Type 0 where
    pub lacks : (used : ℕ) → s used [] used (Err errors.memory)

-- refusals are turned into others of the same reason
pub record IsTurn {D E : Type 0} (from : Errors D) (to : Errors E) (g : D → E) : Type 0 where
  pub missing : (name : Bytes) → g (from.missing name) ≡ to.missing name
  pub fault : (name : Bytes) → g (from.fault name) ≡ to.fault name
  pub file : g (from.too_large FileBytes (file_bytes + 1)) ≡ to.too_large FileBytes (file_bytes + 1)
  pub all : (count : ℕ) → g (from.too_large AllBytes count) ≡ to.too_large AllBytes count
  pub memory : g from.memory ≡ to.memory
  pub own : (d : D) → from.IsOwn d → to.IsOwn (g d)

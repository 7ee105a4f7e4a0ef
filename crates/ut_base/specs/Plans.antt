-- Plans of reading: which files are asked for, one after another, and what comes of their bytes. What a missing file, a
-- fault and the limits on bytes do is the same at each read. This project's rule.
use Rattle.std.specs.Prelude.{◌≡◌, ◌+◌, ℕ, nat_lt, length, Option, Some, None, Result, Ok, Err, if◌then◌else◌}
use Rattle.ut_text.specs.Bytes.{Bytes}
use Rattle.ut_base.specs.Limits.{file_bytes, all_bytes}
use Rattle.ut_base.specs.Reading.{Came, Gave, Over, Gone, TooLong, Errors, Step, ◌>>=◌, says, asked, wanted, found, needed, used_after}

-- a value, a refusal, or a file and what its bytes lead to: it has to exist, or None stands for a missing one
pub data Plan (A E : Type 0) : Type 0 where
  Gives : A → Plan A E
  Refuses : E → Plan A E
  Takes : Bytes → (Bytes → Plan A E) → Plan A E
  Asks : Bytes → (Option Bytes → Plan A E) → Plan A E

-- one plan, and then that of its value
infixl 10 ◌then◌
abbrev pub ◌then◌ : {A B E : Type 0} → Plan A E → (A → Plan B E) → Plan B E
(Gives x) then f = f x
(Refuses e) then f = Refuses e
(Takes name next) then f = Takes name (λ bytes. next bytes then f)
(Asks name next) then f = Asks name (λ got. next got then f)

-- what needs no file
abbrev pub of_result : {A E : Type 0} → Result A E → Plan A E
of_result (Ok x) = Gives x
of_result (Err e) = Refuses e

-- what a read brings of the bytes of a file, if it exists, where so many bytes were taken before
abbrev pub brought_of : Bytes → ℕ → Option Bytes → Came
brought_of name used None = Gone name
brought_of name used (Some bytes) =
    if nat_lt file_bytes (length bytes) then TooLong name
    else if nat_lt all_bytes (used + length bytes) then Over name (length bytes)
    else Gave name bytes

-- what a read of these files brings, where it doesn't fail
abbrev pub brought : (Bytes → Option Bytes) → ℕ → Bytes → Came
brought files used name = brought_of name used (files name)

-- what reading comes to, and the bytes taken then
pub record Outcome (A E : Type 0) : Type 0 where
  pub result : Result A E
  pub used : ℕ

-- a value leads on, and a refusal ends
abbrev pub onward : {A B E : Type 0} → (A → ℕ → Outcome B E) → Result A E → ℕ → Outcome B E
onward next (Ok x) used = next x used
onward next (Err e) used = record { result = Err e; used = used }

module _ {A E : Type 0} (errors : Errors E) where
  -- the step of a plan
  abbrev pub plan : Plan A E → Step A E
  plan (Gives x) = says errors (λ r. r ≡ Ok x)
  plan (Refuses e) = says errors (λ r. r ≡ Err e)
  plan (Takes name next) = wanted errors name >>= λ bytes. plan (next bytes)
  plan (Asks name next) = asked errors name >>= λ got. plan (next got)

  -- what a plan comes to over the files that are held, where no read fails and memory is there
  abbrev pub outcome : (Bytes → Option Bytes) → Plan A E → ℕ → Outcome A E
  outcome files (Gives x) used = record { result = Ok x; used = used }
  outcome files (Refuses e) used = record { result = Err e; used = used }
  outcome files (Takes name next) used =
      let c = brought files used name in
      onward (λ bytes. outcome files (next bytes)) (needed errors used c) (used_after used c)
  outcome files (Asks name next) used =
      let c = brought files used name in
      onward (λ got. outcome files (next got)) (found errors used c) (used_after used c)

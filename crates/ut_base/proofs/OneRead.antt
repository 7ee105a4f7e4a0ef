-- One read: from what `take` ensures to a step of one read.
use Rattle.std.proofs.Common.{◌≡◌, ◌∙◌, ◌⊎◌, ◌≤◌, ◌<◌, ◌+◌, ◌-◌, ℕ, inl, inr, refl, sym, subst, ap, arith, [], ◌∷◌, Option, Some, None, Result, Ok, Err}
use Rattle.std.specs.Prelude.{IfSome, IsErrOf, Vec}
use Rattle.std.specs.FinMap.{get}
use Rattle.std.specs.declared.alloc.Global.{Global}
use Rattle.ut_text.specs.Bytes.{Bytes}
use Rattle.ut_base.specs.Limits.{file_bytes, all_bytes}
use Rattle.ut_base.specs.Outside.{Held, HasCause}
use Rattle.ut_base.specs.Meter.{TakesFrom, TakesWithin}
use Rattle.ut_base.specs.Refused.{IsRefusedBy}
use Rattle.ut_base.specs.Reading.{Came, Gave, Over, Gone, TooLong, Broke, Errors, used_after, MayBring, found, needed, one_read, Read, Lacked, asked, wanted, Agrees, IsBroke, IsGone, IsTooLong, Stand, Reads}
use Rattle.ut_base.specs.declared.limits.Limit.TheVariants.{FileBytes, AllBytes}
use Rattle.ut_base.specs.declared.meter.TakeBad.{TakeBad}
use Rattle.ut_base.specs.declared.meter.TakeBad.TheVariants as bad

-- a fact of what is held leads to another
under : {P Q : Held → Type 0} (o : Option Held) → ((m : Held) → P m → Q m) → IfSome o P → IfSome o Q
under None f h = tt
under (Some m) f h = f m h

always : {Q : Held → Type 0} (o : Option Held) → ((m : Held) → Q m) → IfSome o Q
always None f = tt
always (Some m) f = f m

-- a count, for a cause that another one implies
caused : {P Q : Type 0} (a b : ℕ) → (Q → P) → HasCause a b P → HasCause a b Q
caused a b f h = record { later = h.later; rose = λ q. h.rose (f q) }

alone : {P Q : Type 0} → (P → Q) → P ⊎ ⊥ → Q
alone f (inl p) = f p
alone f (inr h) = absurd h

-- what `take` ensures of this result
pub record Took (name : Bytes) (old new : Stand) (used now : ℕ) (r : Result (Vec ℕ Global) TakeBad) : Type 0 where
  pub told : IfSome old.held (λ m. TakesFrom (get m name) used r)
  pub same : new.held ≡ old.held
  pub within : TakesWithin used now r
  pub before : used ≤ all_bytes
  pub fault : HasCause old.faults new.faults (IsErrOf r bad.Fault)
  pub missing : HasCause old.missing new.missing (IsErrOf r bad.Missing)
  pub long : HasCause old.long new.long (IsErrOf r bad.FileTooLong)

module _ {A E : Type 0} (errors : Errors E) (answer : ℕ → Came → Result A E) (name : Bytes) (old new : Stand) (used now : ℕ) where
  -- what came, and that its count rose
  reads_one : (r : Result (Vec ℕ Global) TakeBad) (c : Came) → Took name old new used now r → MayBring name used c → now ≡ used_after used c
      → IfSome old.held (λ m. Agrees (get m) c) → (IsBroke c → IsErrOf r bad.Fault) → (IsGone c → IsErrOf r bad.Missing) → (IsTooLong c → IsErrOf r bad.FileTooLong)
      → Reads (one_read errors answer name) old new used now (answer used c)
  reads_one r c took may is told f m l = record {
    came = c ∷ [];
    follows = Read c refl may is refl;
    agrees = under old.held (λ m h. (h, tt)) told;
    same = took.same;
    broke = caused _ _ (alone f) took.fault;
    gone = caused _ _ (alone m) took.missing;
    too_long = caused _ _ (alone l) took.long;
  }

  -- want of memory, whatever was read
  reads_lacking : (r : Result (Vec ℕ Global) TakeBad) → Took name old new used now r → now ≡ used → Reads (one_read errors answer name) old new used now (Err errors.memory)
  reads_lacking r took is = record {
    came = [];
    follows = Lacked refl is refl;
    agrees = always old.held (λ m. tt);
    same = took.same;
    broke = caused _ _ (λ h. absurd h) took.fault;
    gone = caused _ _ (λ h. absurd h) took.missing;
    too_long = caused _ _ (λ h. absurd h) took.long;
  }

  -- bytes that were taken
  pub reads_gave : (bytes : Vec ℕ Global) → Took name old new used now (Ok bytes) → Reads (one_read errors answer name) old new used now (answer used (Gave name bytes.items))
  reads_gave bytes took = reads_one (Ok bytes) (Gave name bytes.items) took
      (refl, took.within.0, subst (λ x. x ≤ all_bytes) took.within.1 took.within.2) took.within.1 took.told (λ h. absurd h) (λ h. absurd h) (λ h. absurd h)

  -- no such file
  pub reads_gone : Took name old new used now (Err bad.Missing) → Reads (one_read errors answer name) old new used now (answer used (Gone name))
  reads_gone took = reads_one (Err bad.Missing) (Gone name) took refl took.within took.told (λ h. absurd h) (λ h. refl) (λ h. absurd h)

  reads_broke : Took name old new used now (Err bad.Fault) → Reads (one_read errors answer name) old new used now (answer used (Broke name))
  reads_broke took = reads_one (Err bad.Fault) (Broke name) took refl took.within (always old.held (λ m. tt)) (λ h. refl) (λ h. absurd h) (λ h. absurd h)

  reads_long : Took name old new used now (Err bad.FileTooLong) → Reads (one_read errors answer name) old new used now (answer used (TooLong name))
  reads_long took = reads_one (Err bad.FileTooLong) (TooLong name) took refl took.within took.told (λ h. absurd h) (λ h. absurd h) (λ h. refl)

  reads_over : (count : ℕ) → Took name old new used now (Err (bad.AllTooLong count)) → Reads (one_read errors answer name) old new used now (answer used (Over name (count - used)))
  reads_over count took =
      let whole : used + (count - used) ≡ count = omega (arith, took.within.1, took.before) in
      reads_one (Err (bad.AllTooLong count)) (Over name (count - used)) took
      (refl, omega (arith, took.within.2), subst (λ x. all_bytes < x) (sym whole) took.within.1) took.within.0
      (under old.held (λ m h. (h.0, h.1, omega (arith, h.2))) took.told) (λ h. absurd h) (λ h. absurd h) (λ h. absurd h)

  whole : (count : ℕ) → Took name old new used now (Err (bad.AllTooLong count)) → used + (count - used) ≡ count
  whole count took = omega (arith, took.within.1, took.before)

  -- how the answer refuses
  pub record RefusesFaults : Type 0 where
    pub over : (size : ℕ) → answer used (Over name size) ≡ Err (errors.too_large AllBytes (used + size))
    pub long : answer used (TooLong name) ≡ Err (errors.too_large FileBytes (file_bytes + 1))
    pub broke : answer used (Broke name) ≡ Err (errors.fault name)

  -- a refusal
  pub reads_refused : RefusesFaults → (cause : TakeBad) (e : E) → (cause ≡ bad.Missing → answer used (Gone name) ≡ Err (errors.missing name))
      → Took name old new used now (Err cause) → IsRefusedBy errors name cause e → Reads (one_read errors answer name) old new used now (Err e)
  reads_refused says bad.Missing e gone took (inl is) = subst (Reads (one_read errors answer name) old new used now) (gone refl ∙ ap Err (sym is)) (reads_gone took)
  reads_refused says bad.Missing e gone took (inr is) = subst (λ x. Reads (one_read errors answer name) old new used now (Err x)) (sym is) (reads_lacking _ took took.within)
  reads_refused says bad.Fault e gone took (inl is) = subst (Reads (one_read errors answer name) old new used now) (says.broke ∙ ap Err (sym is)) (reads_broke took)
  reads_refused says bad.Fault e gone took (inr is) = subst (λ x. Reads (one_read errors answer name) old new used now (Err x)) (sym is) (reads_lacking _ took took.within)
  reads_refused says bad.FileTooLong e gone took is = subst (Reads (one_read errors answer name) old new used now) (says.long ∙ ap Err (sym is)) (reads_long took)
  reads_refused says (bad.AllTooLong count) e gone took is =
      subst (Reads (one_read errors answer name) old new used now)
      (says.over (count - used) ∙ ap (λ n. Err (errors.too_large AllBytes n)) (whole count took) ∙ ap Err (sym is)) (reads_over count took)
  reads_refused says bad.Oom e gone took is = subst (λ x. Reads (one_read errors answer name) old new used now (Err x)) (sym is) (reads_lacking _ took took.within)

module _ {E : Type 0} (errors : Errors E) (name : Bytes) (old new : Stand) (used now : ℕ) where
  pub wants_gave : (bytes : Vec ℕ Global) → Took name old new used now (Ok bytes) → Reads (wanted errors name) old new used now (Ok bytes.items)
  wants_gave bytes took = reads_gave errors (needed errors) name old new used now bytes took

  pub wants_refused : (cause : TakeBad) (e : E) → Took name old new used now (Err cause) → IsRefusedBy errors name cause e → Reads (wanted errors name) old new used now (Err e)
  wants_refused cause e took is = reads_refused errors (needed errors) name old new used now (record { over = λ size. refl; long = refl; broke = refl }) cause e (λ h. refl) took is

  pub asks_gave : (bytes : Vec ℕ Global) → Took name old new used now (Ok bytes) → Reads (asked errors name) old new used now (Ok (Some bytes.items))
  asks_gave bytes took = reads_gave errors (found errors) name old new used now bytes took

  pub asks_gone : (cause : TakeBad) → cause ≡ bad.Missing → Took name old new used now (Err cause) → Reads (asked errors name) old new used now (Ok None)
  asks_gone cause is took = reads_gone errors (found errors) name old new used now (subst (λ b. Took name old new used now (Err b)) is took)

  pub asks_refused : (cause : TakeBad) (e : E) → (cause ≡ bad.Missing → ⊥) → Took name old new used now (Err cause) → IsRefusedBy errors name cause e → Reads (asked errors name) old new used now (Err e)
  asks_refused cause e held took is = reads_refused errors (found errors) name old new used now (record { over = λ size. refl; long = refl; broke = refl }) cause e (λ h. absurd (held h)) took is

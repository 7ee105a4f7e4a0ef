-- The cause of each refusal of a run: a count that rose, and what the files hold.
use Rattle.std.proofs.Common.{◌≡◌, ◌+◌, ℕ, inl, inr, sym, subst, ap, List, [], ◌∷◌, Option, None, Some, Result, Err}
use Rattle.std.specs.Prelude.{IfSome}
use Rattle.std.specs.FinMap.{get}
use Rattle.std.specs.List.{AllByRecursion}
use Rattle.ut_text.specs.Bytes.{Bytes}
use Rattle.ut_base.specs.Limits.{file_bytes}
use Rattle.ut_base.specs.Outside.{Held, IsLonger}
use Rattle.ut_base.specs.Reading.{Agrees, Came, Gave, Over, Gone, TooLong, Broke, IsBroke, IsGone, IsTooLong, SomeRead, Stand}
use Rattle.ut_base.specs.Settled.{HasReason, MayRefuse}
use Rattle.ut_base.specs.declared.limits.Limit.{Limit}
use Rattle.ut_base.specs.declared.limits.Limit.TheVariants as limit
use Rattle.ut_base.proofs.SettledLaws.{some_as}
use Rattle.undertaker_run.specs.Ends.{Ends, Sinks}
use Rattle.undertaker_run.specs.Errors.{run_errors}
use Rattle.undertaker_run.specs.Inner.{Works}
use Rattle.undertaker_run.specs.Orders.{order_of}
use Rattle.undertaker_run.specs.Run.{IsCaused, IsPassed, Runs}
use Rattle.undertaker_run.specs.Work.{work_of}
use Rattle.undertaker_run.specs.declared.bad.Bad.{Bad}
use Rattle.undertaker_run.specs.declared.bad.Bad.TheVariants as bad
use Rattle.undertaker_run.specs.declared.status.Status.{Status}
use Rattle.undertaker_run.proofs.WorkLaws.{honest_work}

-- ---- causes of refusals

-- a read of one kind, and what holds of every read
some_of_all : (P Q : Came → Type 0) (cs : List Came) → SomeRead P cs → AllByRecursion Q cs → (c : Came) × P c × Q c
some_of_all P Q [] some all = absurd some
some_of_all P Q (c ∷ cs) (inl p) all = (c, p, all.0)
some_of_all P Q (c ∷ cs) (inr some) all = some_of_all P Q cs some all.1

-- the same over files that may be known
some_held : (P : Came → Type 0) (o : Option Held) (cs : List Came) → SomeRead P cs → IfSome o (λ m. AllByRecursion (Agrees (get m)) cs)
    → IfSome o (λ m. (c : Came) × P c × Agrees (get m) c)
some_held P None cs some all = tt
some_held P (Some m) cs some all = some_of_all P (Agrees (get m)) cs some all

under : {P Q : Held → Type 0} (o : Option Held) → ((m : Held) → P m → Q m) → IfSome o P → IfSome o Q
under None f h = tt
under (Some m) f h = f m h

-- which read may bring about a refusal
is_gone : (file : Bytes) (c : Came) → MayRefuse run_errors (bad.Missing file) c → c ≡ Gone file
is_gone file (Gave n bytes) may = absurd may
is_gone file (Over n size) may = absurd (let w = may.1 in cc)
is_gone file (Gone n) may = let same : file ≡ n = cc in ap Gone (sym same)
is_gone file (TooLong n) may = absurd (cc)
is_gone file (Broke n) may = absurd (cc)

is_broke : (file : Bytes) (c : Came) → MayRefuse run_errors (bad.ReadFault file) c → IsBroke c
is_broke file (Gave n bytes) may = absurd may
is_broke file (Over n size) may = absurd (let w = may.1 in cc)
is_broke file (Gone n) may = absurd (cc)
is_broke file (TooLong n) may = absurd (cc)
is_broke file (Broke n) may = tt

is_long : (count : ℕ) (c : Came) → MayRefuse run_errors (bad.TooLarge limit.FileBytes count) c → IsTooLong c × (count ≡ file_bytes + 1)
is_long count (Gave n bytes) may = absurd may
is_long count (Over n size) may = absurd (let w = may.1 in cc)
is_long count (Gone n) may = absurd (cc)
is_long count (TooLong n) may = (tt, cc)
is_long count (Broke n) may = absurd (cc)

-- a read that found too much, of files that are known
longer : (m : Held) (c : Came) → IsTooLong c → Agrees (get m) c → (file : Bytes) × IsLonger file_bytes (get m file)
longer m (Gave n bytes) is agrees = absurd is
longer m (Over n size) is agrees = absurd is
longer m (Gone n) is agrees = absurd is
longer m (TooLong n) is agrees = (n, agrees)
longer m (Broke n) is agrees = absurd is

module _ {words : List Bytes} {old new : Stand} {ending : Result Bytes Bad} (works : Works words old new ending) where
  reason : (e : Bad) → ending ≡ Err e → HasReason run_errors e works.reads.came
  reason e is = (honest_work (order_of words)).reason 0 works.used works.reads.came e (subst (work_of words 0 works.reads.came works.used) is works.reads.follows)

  missing : (file : Bytes) → HasReason run_errors (bad.Missing file) works.reads.came → IsCaused (bad.Missing file) old new
  missing file (inl own) = absurd own
  missing file (inr (inl memory)) = absurd (cc)
  missing file (inr (inr some)) =
      let gone : SomeRead (λ c. c ≡ Gone file) works.reads.came = some_as (is_gone file) works.reads.came some in (
        works.reads.gone.rose (some_as (λ c is. subst IsGone (sym is) tt) works.reads.came gone),
        under old.held (λ m h. subst (Agrees (get m)) h.1 h.2) (some_held (λ c. c ≡ Gone file) old.held works.reads.came gone works.reads.agrees),
      )

  fault : (file : Bytes) → HasReason run_errors (bad.ReadFault file) works.reads.came → IsCaused (bad.ReadFault file) old new
  fault file (inl own) = absurd own
  fault file (inr (inl memory)) = absurd (cc)
  fault file (inr (inr some)) = works.reads.broke.rose (some_as (is_broke file) works.reads.came some)

  long : (count : ℕ) → HasReason run_errors (bad.TooLarge limit.FileBytes count) works.reads.came → IsPassed limit.FileBytes count old new
  long count (inl own) = absurd own
  long count (inr (inl memory)) = absurd (cc)
  long count (inr (inr some)) =
      let reads : SomeRead (λ c. IsTooLong c × (count ≡ file_bytes + 1)) works.reads.came = some_as (is_long count) works.reads.came some in
      let counted : (c : Came) × (IsTooLong c × (count ≡ file_bytes + 1)) × Unit {0} = some_of_all (λ c. IsTooLong c × (count ≡ file_bytes + 1)) (λ c. Unit {0}) works.reads.came reads (all_unit works.reads.came) in (
        counted.1.1,
        works.reads.too_long.rose (some_as (λ c is. is.0) works.reads.came reads),
        under old.held (λ m h. longer m h.0 h.1.0 h.2) (some_held (λ c. IsTooLong c × (count ≡ file_bytes + 1)) old.held works.reads.came reads works.reads.agrees),
      )
    where
      all_unit : (cs : List Came) → AllByRecursion (λ c. Unit {0}) cs
      all_unit [] = tt
      all_unit (c ∷ cs) = (tt, all_unit cs)

  passed : (what : Limit) (count : ℕ) → HasReason run_errors (bad.TooLarge what count) works.reads.came → IsPassed what count old new
  passed limit.FileBytes count h = long count h
  passed limit.AllBytes count h = tt
  passed limit.Sources count h = tt
  passed limit.Symbols count h = tt
  passed limit.Members count h = tt
  passed limit.Defaults count h = tt
  passed limit.Nesting count h = tt
  passed limit.SourceDepth count h = tt
  passed limit.Brackets count h = tt
  passed limit.Paths count h = tt
  passed limit.Wishes count h = tt
  passed limit.Constants count h = tt
  passed limit.Replacements count h = tt

  caused_by : (e : Bad) → HasReason run_errors e works.reads.came → IsCaused e old new
  caused_by (bad.Usage kind) h = tt
  caused_by (bad.Line file line kind) h = tt
  caused_by (bad.Missing file) h = missing file h
  caused_by (bad.ReadFault file) h = fault file h
  caused_by (bad.TooLarge what count) h = passed what count h
  caused_by bad.Oom h = tt

  -- each refusal of a run has its cause in it
  pub caused : (e : Bad) → ending ≡ Err e → IsCaused e old new
  caused e is = caused_by e (reason e is)

  -- so the record of a run
  pub runs : {before after : Sinks} {s : Status} → Ends ending before after s → Runs words old new before after s
  runs ends = record { ending = ending; used = works.used; reads = works.reads; caused = caused; ends = ends }

-- the same where it is known what the work came to
pub runs_as : {words : List Bytes} {old new : Stand} {made ending : Result Bytes Bad} {before after : Sinks} {s : Status}
    → Works words old new made → made ≡ ending → Ends ending before after s → Runs words old new before after s
runs_as works is ends = runs works (rw is ends)

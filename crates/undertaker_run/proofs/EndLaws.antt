-- What the status of a run says: each clause of the top call, from the record of the run.
use Rattle.std.proofs.Common.{◌≡◌, ◌⊎◌, ◌∙◌, inl, inr, refl, sym, subst, ap, List, Option, None, Some, Result, Ok, Err}
use Rattle.std.specs.Prelude.{IfSome}
use Rattle.std.specs.FinMap.{get}
use Rattle.std.specs.List.{AllByRecursion}
use Rattle.ut_text.specs.Bytes.{Bytes}
use Rattle.ut_base.specs.Outside.{HasCause, Held, Rose}
use Rattle.ut_base.specs.Reading.{Agrees, Stand}
use Rattle.ut_base.specs.Settled.{AreAlike, ComesTo, IsCut}
use Rattle.ut_base.proofs.SettledLaws.{one_answer, reads_exact}
use Rattle.undertaker_run.specs.Ends.{BrokeOff, Closes, Ends, Lacked, Refused, SaysLine, SinkStand, Sinks, Wrote}
use Rattle.undertaker_run.specs.Errors.{run_errors}
use Rattle.undertaker_run.specs.Inner.{Reports}
use Rattle.undertaker_run.specs.Jobs.Golem.{golem_of}
use Rattle.undertaker_run.specs.Laws.{HasOneRefusal}
use Rattle.undertaker_run.specs.Orders.{order_of}
use Rattle.undertaker_run.specs.Refusals.{line_of, status_of}
use Rattle.undertaker_run.specs.Run.{IsCalm, IsComplete, IsExact, IsGolemRun, IsSettledBy, IsUsage, KeepsOut, Runs, SaysWhy}
use Rattle.undertaker_run.specs.Work.{work_by, work_of}
use Rattle.undertaker_run.specs.declared.bad.Bad.{Bad}
use Rattle.undertaker_run.specs.declared.bad.Bad.TheVariants as bad
use Rattle.undertaker_run.specs.declared.status.Status.{Status}
use Rattle.undertaker_run.specs.declared.status.Status.TheVariants as status
use Rattle.undertaker_run.proofs.GolemLaws.{golem_comes}
use Rattle.undertaker_run.proofs.Usage.{is_usage_of, usage_of}
use Rattle.undertaker_run.proofs.WorkLaws.{settled_work, stops_work}

-- ---- by the status

kept_at : (s : Status) (old new : SinkStand) → new.taken ≡ old.taken → KeepsOut s old new
kept_at status.Well old new h = tt
kept_at status.Usage old new h = h
kept_at status.Refused old new h = h
kept_at status.Missing old new h = h
kept_at status.ReadFault old new h = h
kept_at status.WriteFault old new h = tt
kept_at status.Memory old new h = h
kept_at status.Limit old new h = h
kept_at status.Wrong old new h = h

why_at : (words : List Bytes) (old new : SinkStand) (e : Bad) → ((kind : _) → e ≡ bad.Usage kind → order_of words ≡ Err kind) → SaysLine (line_of e) old new
    → SaysWhy words (status_of e) old new
why_at words old new (bad.Usage kind) usage said = (kind, usage kind refl, said)
why_at words old new (bad.Line file line kind) usage said = (file, line, kind, said)
why_at words old new (bad.Missing file) usage said = (file, said)
why_at words old new (bad.ReadFault file) usage said = (file, said)
why_at words old new (bad.TooLarge what count) usage said = (what, count, said)
why_at words old new bad.Oom usage said = said

-- a refusal's status tells which it is
at_fault : (e : Bad) → status.ReadFault ≡ status_of e → (file : Bytes) × (e ≡ bad.ReadFault file)
at_fault (bad.Usage kind) h = absurd (cc)
at_fault (bad.Line file line kind) h = absurd (cc)
at_fault (bad.Missing file) h = absurd (cc)
at_fault (bad.ReadFault file) h = (file, refl)
at_fault (bad.TooLarge what count) h = absurd (cc)
at_fault bad.Oom h = absurd (cc)

at_missing : (e : Bad) → status.Missing ≡ status_of e → (file : Bytes) × (e ≡ bad.Missing file)
at_missing (bad.Usage kind) h = absurd (cc)
at_missing (bad.Line file line kind) h = absurd (cc)
at_missing (bad.Missing file) h = (file, refl)
at_missing (bad.ReadFault file) h = absurd (cc)
at_missing (bad.TooLarge what count) h = absurd (cc)
at_missing bad.Oom h = absurd (cc)

-- no refusal is a write fault
pub no_write_fault : (e : Bad) → status.WriteFault ≡ status_of e → ⊥
no_write_fault (bad.Usage kind) h = cc
no_write_fault (bad.Line file line kind) h = cc
no_write_fault (bad.Missing file) h = cc
no_write_fault (bad.ReadFault file) h = cc
no_write_fault (bad.TooLarge what count) h = cc
no_write_fault bad.Oom h = cc

same_alike_is : (r o : Result Bytes Bad) → AreAlike (λ x y. x ≡ y) r o → r ≡ o
same_alike_is (Ok x) (Ok y) h = ap Ok h
same_alike_is (Ok x) (Err e) h = absurd h
same_alike_is (Err d) (Ok y) h = absurd h
same_alike_is (Err d) (Err e) h = ap Err h

both_texts : (r o : Result Bytes Bad) → AreAlike (λ x y. x ≡ y) r o → AreAlike (λ x y. Unit {0}) r o
both_texts (Ok x) (Ok y) h = tt
both_texts (Ok x) (Err e) h = h
both_texts (Err d) (Ok y) h = h
both_texts (Err d) (Err e) h = h

-- how a run ends whose refusal was reported
pub refused_ends : {e : Bad} {s : Status} (out : SinkStand) {old new : SinkStand} → Reports e s old new → Ends (Err e) (record { out = out; err = old }) (record { out = out; err = new }) s
refused_ends {e} out (inl h) = Refused e refl h.0 refl h.1
refused_ends {e} out (inr h) = Lacked e refl h.0 refl h.1

-- two outcomes are the same refusal or two texts
pub one_refusal : HasOneRefusal
one_refusal files words o p h g = both_texts o p (one_answer (settled_work files (order_of words)) h.comes g.comes).1

module _ {ending : Result Bytes Bad} {before after : Sinks} {s : Status} where
  kept_by : Ends ending before after s → KeepsOut s before.out after.out
  kept_by (Wrote text is at took same) = subst (λ x. KeepsOut x before.out after.out) (sym at) tt
  kept_by (BrokeOff text is at took said) = subst (λ x. KeepsOut x before.out after.out) (sym at) tt
  kept_by (Refused e is at left said) = kept_at s before.out after.out left
  kept_by (Lacked e is at left said) = kept_at s before.out after.out left

  -- a run that no fault and no want of memory ended has the status of its ending
  settled_status : Ends ending before after s → IsSettledBy s → (e : Bad) → ending ≡ Err e → s ≡ status_of e
  settled_status (Wrote text is at took same) settled e err = absurd (cc)
  settled_status (BrokeOff text is at took said) settled e err = absurd (cc)
  settled_status (Refused d is at left said) settled e err = let same : d ≡ e = cc in at ∙ ap status_of same
  settled_status (Lacked d is at left said) settled e err = absurd (settled.1 at)

  closes_by : Ends ending before after s → IsSettledBy s → Closes ending s
  closes_by (Wrote text is at took same) settled = subst (λ x. Closes x s) (sym is) (inl at)
  closes_by (BrokeOff text is at took said) settled = subst (λ x. Closes x s) (sym is) (inr at)
  closes_by (Refused e is at left said) settled = subst (λ x. Closes x s) (sym is) at
  closes_by (Lacked e is at left said) settled = absurd (settled.1 at)

module _ {words : List Bytes} {old new : Stand} {before after : Sinks} {s : Status} (run : Runs words old new before after s) where
  pub kept : KeepsOut s before.out after.out
  kept = kept_by run.ends

  pub usage : IsUsage (order_of words) s
  usage = is_usage_of before after s (order_of words) run.used run.reads.came run.ending run.reads.follows run.ends

  said_of : (e : Bad) → run.ending ≡ Err e → (kind : _) → e ≡ bad.Usage kind → order_of words ≡ Err kind
  said_of e is kind same =
      usage_of (order_of words) run.used run.reads.came kind (subst (work_of words 0 run.reads.came run.used) (is ∙ ap Err same) run.reads.follows)

  pub why : SaysWhy words s before.err after.err
  why = by run.ends
    where
      by : Ends run.ending before after s → SaysWhy words s before.err after.err
      by (Wrote text is at took same) = subst (λ x. SaysWhy words x before.err after.err) (sym at) same
      by (BrokeOff text is at took said) = subst (λ x. SaysWhy words x before.err after.err) (sym at) said
      by (Refused e is at left said) = subst (λ x. SaysWhy words x before.err after.err) (sym at) (why_at words before.err after.err e (said_of e is) said)
      by (Lacked e is at left said) = subst (λ x. SaysWhy words x before.err after.err) (sym at) said

  pub read_fault : HasCause old.faults new.faults (s ≡ status.ReadFault)
  read_fault = record { later = run.reads.broke.later; rose = λ is. by is run.ends }
    where
      by : s ≡ status.ReadFault → Ends run.ending before after s → Rose old.faults new.faults
      by is (Wrote text ok at took same) = absurd (cc)
      by is (BrokeOff text ok at took said) = absurd (cc)
      by is (Refused e err at left said) = let k = at_fault e (sym is ∙ at) in run.caused (bad.ReadFault k.0) (err ∙ ap Err k.1)
      by is (Lacked e err at left said) = absurd (cc)

  pub missing : HasCause old.missing new.missing (s ≡ status.Missing)
  missing = record { later = run.reads.gone.later; rose = λ is. by is run.ends }
    where
      by : s ≡ status.Missing → Ends run.ending before after s → Rose old.missing new.missing
      by is (Wrote text ok at took same) = absurd (cc)
      by is (BrokeOff text ok at took said) = absurd (cc)
      by is (Refused e err at left said) = let k = at_missing e (sym is ∙ at) in (run.caused (bad.Missing k.0) (err ∙ ap Err k.1)).0
      by is (Lacked e err at left said) = absurd (cc)

  -- ---- over files that are known

  module _ {m : Held} (known : old.held ≡ Some m) where
    uncut : IsSettledBy s → IsCut run_errors run.reads.came run.ending → ⊥
    uncut settled (inl broke) =
        let k = (stops_work (order_of words)).stops 0 run.used run.reads.came run.ending run.reads.follows broke in
        settled.0 (settled_status run.ends settled (bad.ReadFault k.0) k.1)
    uncut settled (inr memory) = settled.1 (settled_status run.ends settled bad.Oom memory)

    comes : IsSettledBy s → ComesTo run_errors (get m) (work_of words) 0 run.used run.ending
    comes settled = record {
      came = run.reads.came;
      follows = run.reads.follows;
      agrees = subst (λ o. IfSome o (λ held. AllByRecursion (Agrees (get held)) run.reads.came)) known run.reads.agrees;
      uncut = uncut settled;
    }

    exact_over : IsExact (get m) words s
    exact_over = record {
      some = λ settled. (run.ending, record { used = run.used; comes = comes settled }, closes_by run.ends settled);
      each = λ settled o is. subst (λ x. Closes x s)
          (same_alike_is run.ending o (one_answer (settled_work (get m) (order_of words)) (comes settled) is.comes).1) (closes_by run.ends settled);
    }

    complete_over : IsComplete (get m) words (IsCalm old new before.out after.out) s
    complete_over text is calm = by run.ends
      where
        refused : (e : Bad) → run.ending ≡ Err e → s ≡ status_of e → AreAlike (λ x y. x ≡ y) run.ending (Ok text) ⊎ (run.ending ≡ Err bad.Oom) → (s ≡ status.Well) ⊎ (s ≡ status.Memory)
        refused e err at (inl alike) = absurd (let w = same_alike_is run.ending (Ok text) alike in cc)
        refused e err at (inr memory) = let same : e ≡ bad.Oom = cc in inr (at ∙ ap status_of same)

        by : Ends run.ending before after s → (s ≡ status.Well) ⊎ (s ≡ status.Memory)
        by (Wrote t ok at took same) = inl at
        by (BrokeOff t ok at took said) = absurd (calm.wrote took.faulted)
        by (Refused e err at left said) = refused e err at (reads_exact known calm.read run.reads (settled_work (get m) (order_of words)) is.comes)
        by (Lacked e err at left said) = inr at

    golem_over : IsGolemRun (get m) words before after s
    golem_over order root said golem kbuild settled = subst (λ x. Ends x before after s) same run.ends
      where
        same : run.ending ≡ golem_of (get m) root
        same = golem_comes (get m) root order kbuild run.used run.ending (subst (λ x. ComesTo run_errors (get m) (work_by x) 0 run.used run.ending) said (comes settled))

-- ---- over files that may be known

if_known : {P : Held → Type 0} (o : Option Held) → ((m : Held) → o ≡ Some m → P m) → IfSome o P
if_known None f = tt
if_known (Some m) f = f m refl

module _ {words : List Bytes} {old new : Stand} {before after : Sinks} {s : Status} (held : Option Held) (run : Runs words old new before after s) (same : old.held ≡ held) where
  pub exact : IfSome held (λ m. IsExact (get m) words s)
  exact = if_known held (λ m known. exact_over run (same ∙ known))

  pub complete : IfSome held (λ m. IsComplete (get m) words (IsCalm old new before.out after.out) s)
  complete = if_known held (λ m known. complete_over run (same ∙ known))

  pub golem : IfSome held (λ m. IsGolemRun (get m) words before after s)
  golem = if_known held (λ m known. golem_over run (same ∙ known))

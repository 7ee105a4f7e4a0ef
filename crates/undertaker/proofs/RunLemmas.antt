-- From what the steps of a run promise to how it ends.
use Rattle.std.proofs.Common.{ℕ, List, inl, inr, sym, subst, Option, Some, None, Result, Err}
use Rattle.std.specs.Prelude.{IfSome, codes}
use Rattle.ut_base.specs.declared.limits.Limit.TheVariants.{FileBytes, AllBytes}
use Rattle.ut_base.specs.declared.meter.TakeBad.TheVariants as take
use Rattle.undertaker.specs.declared.first_kconfig.bad.KconfigBad.TheVariants as kconf
use Rattle.undertaker.specs.declared.bad.Bad.{Bad}
use Rattle.undertaker.specs.declared.bad.Bad.TheVariants as bad
use Rattle.undertaker.specs.declared.status.Status.{Status}
use Rattle.undertaker.specs.ErrLines.{named_line, placed_line, limit_line}
use Rattle.undertaker.specs.Outcome.{Refusal, refused, missing, limit, Texts}
use Rattle.undertaker.specs.Refusals.{bad_status}
use Rattle.undertaker.specs.Gather.{Refuses, Names}
use Rattle.undertaker.specs.Run.{EndsBy, EndsWith, Writes, Tells, TellsOne, TellsOutcome, line_at}

-- what holds of a fact about the outcome, where the files tell what they hold
pub if_told : {X : Type 0} {P Q : X → Type 0} → ((x : X) → P x → Q x) → (o : Option X) → IfSome o P → IfSome o Q
if_told f None p = tt
if_told f (Some x) p = f x p

-- it has one of these statuses
not_written : (old new : Option (List ℕ)) (outcome : Result Texts Refusal) (b : Bad) → Writes old new outcome (bad_status b)
not_written old new outcome bad.Usage = tt
not_written old new outcome (bad.Kconfig (kconf.NotYet f l)) = tt
not_written old new outcome (bad.Kconfig (kconf.Missing f)) = tt
not_written old new outcome (bad.Kconfig (kconf.ReadFault f)) = tt
not_written old new outcome (bad.Kconfig (kconf.TooLarge w c)) = tt
not_written old new outcome (bad.Kconfig kconf.Oom) = tt
not_written old new outcome (bad.Source n take.Missing) = tt
not_written old new outcome (bad.Source n take.Fault) = tt
not_written old new outcome (bad.Source n take.FileTooLong) = tt
not_written old new outcome (bad.Source n (take.AllTooLong c)) = tt
not_written old new outcome (bad.Source n take.Oom) = tt
not_written old new outcome bad.Oom = tt

pub refused_writes : (old new : Option (List ℕ)) (outcome : Result Texts Refusal) (b : Bad) (s : Status) → EndsWith b s → Writes old new outcome s
refused_writes old new outcome b s (inl e) = let at : Status → Type 0 = λ s. Writes old new outcome s in subst at (sym e) (not_written old new outcome b)
refused_writes old new outcome b s (inr e) = let at : Status → Type 0 = λ s. Writes old new outcome s in subst at (sym e) tt

-- and the outcome is that refusal
ends_by : (outcome : Result Texts Refusal) (b : Bad) → Refuses outcome b → EndsBy outcome (bad_status b)
ends_by outcome bad.Usage r = r
ends_by outcome (bad.Kconfig (kconf.NotYet f l)) r = (f, l, r)
ends_by outcome (bad.Kconfig (kconf.Missing f)) r = (f, r)
ends_by outcome (bad.Kconfig (kconf.ReadFault f)) r = tt
ends_by outcome (bad.Kconfig (kconf.TooLarge w c)) r = (w, c, r)
ends_by outcome (bad.Kconfig kconf.Oom) r = tt
ends_by outcome (bad.Source n take.Missing) r = (n, r)
ends_by outcome (bad.Source n take.Fault) r = tt
ends_by outcome (bad.Source n take.FileTooLong) r = (FileBytes, 16777217, r)
ends_by outcome (bad.Source n (take.AllTooLong c)) r = (AllBytes, c, r)
ends_by outcome (bad.Source n take.Oom) r = tt
ends_by outcome bad.Oom r = tt

pub refused_ends : (outcome : Result Texts Refusal) (b : Bad) (s : Status) → EndsWith b s → Refuses outcome b → EndsBy outcome s
refused_ends outcome b s (inl e) r = let at : Status → Type 0 = λ s. EndsBy outcome s in subst at (sym e) (ends_by outcome b r)
refused_ends outcome b s (inr e) r = let at : Status → Type 0 = λ s. EndsBy outcome s in subst at (sym e) tt

module _ {E : Type 0} (taken : E → Option (List ℕ)) (faults : E → ℕ) (old new : E) where
  -- its line is told
  tells_outcome : (outcome : Result Texts Refusal) (b : Bad) → Refuses outcome b → Tells taken faults old new (line_at b (bad_status b))
      → TellsOutcome taken faults old new outcome (bad_status b)
  tells_outcome outcome bad.Usage r t = t
  tells_outcome outcome (bad.Kconfig (kconf.NotYet f l)) r t = (refused f l, r, t)
  tells_outcome outcome (bad.Kconfig (kconf.Missing f)) r t = (missing f, r, t)
  tells_outcome outcome (bad.Kconfig (kconf.ReadFault f)) r t = tt
  tells_outcome outcome (bad.Kconfig (kconf.TooLarge w c)) r t = (limit w c, r, t)
  tells_outcome outcome (bad.Kconfig kconf.Oom) r t = tt
  tells_outcome outcome (bad.Source n take.Missing) r t = (missing n, r, t)
  tells_outcome outcome (bad.Source n take.Fault) r t = tt
  tells_outcome outcome (bad.Source n take.FileTooLong) r t = (limit FileBytes 16777217, r, t)
  tells_outcome outcome (bad.Source n (take.AllTooLong c)) r t = (limit AllBytes c, r, t)
  tells_outcome outcome (bad.Source n take.Oom) r t = tt
  tells_outcome outcome bad.Oom r t = tt

  pub refused_tells_outcome : (outcome : Result Texts Refusal) (b : Bad) (s : Status) → EndsWith b s → Refuses outcome b → Tells taken faults old new (line_at b s)
      → TellsOutcome taken faults old new outcome s
  refused_tells_outcome outcome b s (inl e) r t =
      let at : Status → Type 0 = λ s. TellsOutcome taken faults old new outcome s in
      let told : Status → Type 0 = λ s. Tells taken faults old new (line_at b s) in
      subst at (sym e) (tells_outcome outcome b r (subst told e t))
  refused_tells_outcome outcome b s (inr e) r t = let at : Status → Type 0 = λ s. TellsOutcome taken faults old new outcome s in subst at (sym e) tt

  -- with the name of one of the files
  tells_one : (A : Type 0) (names : Option (List ℕ × List ℕ)) (b : Bad) → Names {A = A} names (Err b) → Tells taken faults old new (line_at b (bad_status b))
      → TellsOne taken faults old new names (bad_status b)
  tells_one A names bad.Usage n t = t
  tells_one A names (bad.Kconfig (kconf.NotYet f l)) n t = (n.0, l, n.1, subst (λ x. Tells taken faults old new (placed_line x l (codes "not yet"))) n.2 t)
  tells_one A names (bad.Kconfig (kconf.Missing f)) n t = (n.0, n.1, inl (subst (λ x. Tells taken faults old new (named_line x (codes "missing"))) n.2 t))
  tells_one A names (bad.Kconfig (kconf.ReadFault f)) n t = (n.0, n.1, inl (subst (λ x. Tells taken faults old new (named_line x (codes "read fault"))) n.2 t))
  tells_one A names (bad.Kconfig (kconf.TooLarge w c)) n t =
      subst (λ x. Tells taken faults old new (limit_line FileBytes x)) n.2.1 (subst (λ x. Tells taken faults old new (limit_line x c)) n.2.0 t)
  tells_one A names (bad.Kconfig kconf.Oom) n t = t
  tells_one A names (bad.Source m take.Missing) n t = (n.0, n.1, inr (subst (λ x. Tells taken faults old new (named_line x (codes "missing"))) (sym n.2) t))
  tells_one A names (bad.Source m take.Fault) n t = (n.0, n.1, inr (subst (λ x. Tells taken faults old new (named_line x (codes "read fault"))) (sym n.2) t))
  tells_one A names (bad.Source m take.FileTooLong) n t = t
  tells_one A names (bad.Source m (take.AllTooLong c)) n t = absurd n.2
  tells_one A names (bad.Source m take.Oom) n t = t
  tells_one A names bad.Oom n t = t

  pub refused_tells_one : (A : Type 0) (names : Option (List ℕ × List ℕ)) (b : Bad) (s : Status) → EndsWith b s → Names {A = A} names (Err b)
      → Tells taken faults old new (line_at b s) → TellsOne taken faults old new names s
  refused_tells_one A names b s (inl e) n t =
      let at : Status → Type 0 = λ s. TellsOne taken faults old new names s in
      let told : Status → Type 0 = λ s. Tells taken faults old new (line_at b s) in
      subst at (sym e) (tells_one A names b n (subst told e t))
  refused_tells_one A names b s (inr e) n t =
      let at : Status → Type 0 = λ s. TellsOne taken faults old new names s in
      let told : Status → Type 0 = λ s. Tells taken faults old new (line_at b s) in
      subst at (sym e) (subst told e t)

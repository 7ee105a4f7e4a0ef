-- Only words of another form end a run by a usage line.
use Rattle.std.proofs.Common.{◌≡◌, ◌⊎◌, ◌∙◌, ℕ, inl, inr, refl, sym, ap, List, Option, None, Some, Result, Ok, Err}
use Rattle.std.specs.Result.{result_map_both}
use Rattle.ut_text.specs.Bytes.{Bytes}
use Rattle.ut_base.specs.Reading.{Came, Step, ◌>>=◌, Led, Ended, IsOwnOrOk, says, turned}
use Rattle.kbuild_folders.specs.declared.bad.KbuildBad.{KbuildBad}
use Rattle.kbuild_folders.specs.declared.bad.KbuildBad.TheVariants as kbuild
use Rattle.ut_words.specs.declared.order.Order.{Order}
use Rattle.ut_words.specs.declared.order.UsageKind.{UsageKind}
use Rattle.undertaker_run.specs.Ends.{BrokeOff, Ends, Lacked, Refused, Sinks, Wrote}
use Rattle.undertaker_run.specs.Errors.{bad_of_kbuild, run_errors}
use Rattle.undertaker_run.specs.Refusals.{status_of}
use Rattle.undertaker_run.specs.Run.{IsUsage}
use Rattle.undertaker_run.specs.Texts.{kbuild_of}
use Rattle.undertaker_run.specs.Work.{work_by}
use Rattle.undertaker_run.specs.declared.bad.Bad.{Bad}
use Rattle.undertaker_run.specs.declared.bad.Bad.TheVariants as bad
use Rattle.undertaker_run.specs.declared.status.Status.{Status}
use Rattle.undertaker_run.specs.declared.status.Status.TheVariants as status

-- a step never comes to a usage line
record NeverUsage {A : Type 0} (s : Step A Bad) : Type 0 where
  pub never : (u n : ℕ) (cs : List Came) (kind : UsageKind) → s u cs n (Err (bad.Usage kind)) → ⊥

never_says : {A : Type 0} {is : Result A Bad → Type 0} → ((kind : UsageKind) → is (Err (bad.Usage kind)) → ⊥) → NeverUsage (says run_errors is)
never_says {A} {is} foreign = record { never = λ u n cs kind h. by kind h.answer }
  where
    by : (kind : UsageKind) → (is (Err (bad.Usage kind)) × IsOwnOrOk run_errors {A = A} (Err (bad.Usage kind))) ⊎ (◌≡◌ {A = Result A Bad} (Err (bad.Usage kind)) (Err bad.Oom)) → ⊥
    by kind (inl h) = foreign kind h.0
    by kind (inr h) = cc

never_then : {A B : Type 0} {s : Step A Bad} {f : A → Step B Bad} → NeverUsage s → ((x : A) → NeverUsage (f x)) → NeverUsage (s >>= f)
never_then {A} {B} {s} {f} first second = record { never = by }
  where
    by : (u n : ℕ) (cs : List Came) (kind : UsageKind) → (s >>= f) u cs n (Err (bad.Usage kind)) → ⊥
    by u n cs kind (Led x m fs rs is h g) = (second x).never m n rs kind g
    by u n cs kind (Ended e h is) = let same : bad.Usage kind ≡ e = cc in first.never u n cs kind (rw same h)

never_kbuild : (d : KbuildBad) (kind : UsageKind) → bad.Usage kind ≡ bad_of_kbuild d → ⊥
never_kbuild (kbuild.Syntax file line) kind h = cc
never_kbuild (kbuild.Missing file) kind h = cc
never_kbuild (kbuild.ReadFault file) kind h = cc
never_kbuild (kbuild.TooLarge what count) kind h = cc
never_kbuild kbuild.Oom kind h = cc

never_turned : {A : Type 0} {s : Step A KbuildBad} → NeverUsage (turned bad_of_kbuild s)
never_turned {A} {s} = record { never = λ u n cs kind h. by kind h.before h.answer }
  where
    by : (kind : UsageKind) (q : Result A KbuildBad) → Err (bad.Usage kind) ≡ result_map_both (λ x. x) bad_of_kbuild q → ⊥
    by kind (Ok x) h = cc
    by kind (Err d) h = let same : bad.Usage kind ≡ bad_of_kbuild d = cc in never_kbuild d kind same

never_kbuild_of : (root : Option Bytes) → NeverUsage (kbuild_of root)
never_kbuild_of None = never_says (λ kind h. cc)
never_kbuild_of (Some root) = never_turned

never_work : (order : Order) → NeverUsage (work_by (Ok order))
never_work order = never_then (never_then (never_kbuild_of order.kbuild) (λ conds. never_says (λ kind h. cc))) (λ texts. never_says (λ kind h. cc))

-- a usage line is that of the words
pub usage_of : (said : Result Order UsageKind) (n : ℕ) (cs : List Came) (kind : UsageKind) → work_by said 0 cs n (Err (bad.Usage kind)) → said ≡ Err kind
usage_of (Ok order) n cs kind h = absurd ((never_work order).never 0 n cs kind h)
usage_of (Err k) n cs kind h = by h.answer
  where
    by : ((◌≡◌ {A = Result Bytes Bad} (Err (bad.Usage kind)) (Err (bad.Usage k))) × Unit {0}) ⊎ (◌≡◌ {A = Result Bytes Bad} (Err (bad.Usage kind)) (Err bad.Oom)) → ◌≡◌ {A = Result Order UsageKind} (Err k) (Err kind)
    by (inl is) = let same : k ≡ kind = (let w = is.0 in cc) in ap Err same
    by (inr memory) = absurd (cc)

-- which refusals have the status
is_usage : (e : Bad) → status.Usage ≡ status_of e → (kind : UsageKind) × (e ≡ bad.Usage kind)
is_usage (bad.Usage kind) h = (kind, refl)
is_usage (bad.Line file line kind) h = absurd (cc)
is_usage (bad.Missing file) h = absurd (cc)
is_usage (bad.ReadFault file) h = absurd (cc)
is_usage (bad.TooLarge what count) h = absurd (cc)
is_usage bad.Oom h = absurd (cc)

-- the status of words of another form
module _ (old new : Sinks) (s : Status) where
  refused : (kind : UsageKind) (ending : Result Bytes Bad) → (ending ≡ Err (bad.Usage kind)) ⊎ (ending ≡ Err bad.Oom) → Ends ending old new s → (s ≡ status.Usage) ⊎ (s ≡ status.Memory)
  refused kind ending (inl is) (Wrote text ok at took same) = absurd (cc)
  refused kind ending (inl is) (BrokeOff text ok at took said) = absurd (cc)
  refused kind ending (inl is) (Refused e err at kept said) = let same : e ≡ bad.Usage kind = cc in inl (at ∙ ap status_of same)
  refused kind ending (inl is) (Lacked e err at kept said) = inr at
  refused kind ending (inr is) (Wrote text ok at took same) = absurd (cc)
  refused kind ending (inr is) (BrokeOff text ok at took said) = absurd (cc)
  refused kind ending (inr is) (Refused e err at kept said) = let same : e ≡ bad.Oom = cc in inr (at ∙ ap status_of same)
  refused kind ending (inr is) (Lacked e err at kept said) = inr at

  never : (order : Order) (n : ℕ) (cs : List Came) (ending : Result Bytes Bad) → work_by (Ok order) 0 cs n ending → Ends ending old new s → s ≡ status.Usage → ⊥
  never order n cs ending h (Wrote text ok at took same) is = cc
  never order n cs ending h (BrokeOff text ok at took said) is = cc
  never order n cs ending h (Refused e err at kept said) is = by (is_usage e (sym is ∙ at))
    where
      by : (kind : UsageKind) × (e ≡ bad.Usage kind) → ⊥
      by k = let ended : ending ≡ Err (bad.Usage k.0) = err ∙ ap Err k.1 in (never_work order).never 0 n cs k.0 (rw (← ended) h)
  never order n cs ending h (Lacked e err at kept said) is = cc

  -- the status is Usage exactly where the words are of another form
  pub is_usage_of : (said : Result Order UsageKind) (n : ℕ) (cs : List Came) (ending : Result Bytes Bad) → work_by said 0 cs n ending → Ends ending old new s → IsUsage said s
  is_usage_of (Ok order) n cs ending h ends = never order n cs ending h ends
  is_usage_of (Err kind) n cs ending h ends = refused kind ending (by h.answer) ends
    where
      by : ((ending ≡ Err (bad.Usage kind)) × IsOwnOrOk run_errors ending) ⊎ (ending ≡ Err bad.Oom) → (ending ≡ Err (bad.Usage kind)) ⊎ (ending ≡ Err bad.Oom)
      by (inl is) = inl is.0
      by (inr is) = inr is

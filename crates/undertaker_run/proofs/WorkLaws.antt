-- The work of a run: want of memory, reasons of refusals, and one answer over given files.
use Rattle.std.proofs.Common.{◌≡◌, ◌∙◌, ℕ, inl, inr, refl, sym, subst, List, Option, None, Some, Result, Ok, Err}
use Rattle.ut_text.specs.Bytes.{Bytes}
use Rattle.ut_base.specs.Plans.{plan}
use Rattle.ut_base.specs.Reading.{Reads, Stand, says}
use Rattle.ut_base.specs.Settled.{IsHonest, IsSettled, IsTurn, MayLackMemory}
use Rattle.ut_base.proofs.PlanLaws.{honest_plan, lacks_plan, settled_plan}
use Rattle.ut_base.proofs.ReadingLaws.{lacks_says, lacks_then, reads_err, reads_memory, reads_ok, reads_own, reads_then, turned_err, turned_ok}
use Rattle.ut_base.proofs.SettledLaws.{honest_says, honest_then, honest_turned, same_alike, settled_says, settled_then, settled_turned}
use Rattle.kbuild_folders.specs.Errors.{IsOfPaths, kbuild_errors}
use Rattle.kbuild_folders.specs.Errors as kbuild_spec
use Rattle.kbuild_folders.specs.declared.bad.KbuildBad.{KbuildBad}
use Rattle.kbuild_folders.specs.declared.bad.KbuildBad.TheVariants as kbuild
use Rattle.kbuild_cond.specs.Reading.{kbuild_plan}
use Rattle.kbuild_paths.specs.Paths.{Conds, names_nothing}
use Rattle.ut_words.specs.declared.order.Order.{Order}
use Rattle.ut_words.specs.declared.order.UsageKind.{UsageKind}
use Rattle.undertaker_run.specs.Errors.{IsOfTexts, IsOwn, bad_of_kbuild, run_errors}
use Rattle.undertaker_run.specs.Inner.{IsOrdered, OrMemory, Works}
use Rattle.undertaker_run.specs.Orders.{order_of}
use Rattle.undertaker_run.specs.Texts.{Wanted, kbuild_of, texts_of, wanted_of}
use Rattle.undertaker_run.specs.Work.{IsDone, work_by}
use Rattle.undertaker_run.specs.declared.bad.Bad.{Bad}
use Rattle.undertaker_run.specs.declared.bad.Bad.TheVariants as bad
use Rattle.undertaker_run.specs.declared.texts.Texts.{Texts}
use Rattle.undertaker_run.proofs.Faults.{StopsAtFaults, stops_plan, stops_says, stops_then, stops_turned}

-- ---- Kbuild texts

own_kbuild : (d : KbuildBad) → kbuild_spec.IsOfTexts d → IsOwn (bad_of_kbuild d)
own_kbuild (kbuild.Syntax file line) own = tt
own_kbuild (kbuild.Missing file) own = absurd own
own_kbuild (kbuild.ReadFault file) own = absurd own
own_kbuild (kbuild.TooLarge what count) own = subst IsOfTexts (sym own) tt
own_kbuild kbuild.Oom own = absurd own

turn_kbuild : IsTurn kbuild_errors run_errors bad_of_kbuild
turn_kbuild = record { missing = λ name. refl; fault = λ name. refl; file = refl; all = λ count. refl; memory = refl; own = own_kbuild }

pub lacks_kbuild : (root : Option Bytes) → MayLackMemory run_errors (kbuild_of root)
lacks_kbuild None = lacks_says
lacks_kbuild (Some root) = record { lacks = λ u. record { before = Err kbuild.Oom; follows = (lacks_plan (kbuild_plan root)).lacks u; answer = refl } }

stops_kbuild : (root : Option Bytes) → StopsAtFaults run_errors (kbuild_of root)
stops_kbuild None = stops_says
stops_kbuild (Some root) = stops_turned (λ name. refl) (stops_plan (kbuild_plan root))

honest_kbuild : (root : Option Bytes) → IsHonest run_errors (kbuild_of root)
honest_kbuild None = honest_says
honest_kbuild (Some root) = honest_turned turn_kbuild (honest_plan (kbuild_plan root))

settled_kbuild : (files : Bytes → Option Bytes) (root : Option Bytes) → IsSettled run_errors (λ x y. x ≡ y) files (kbuild_of root)
settled_kbuild files None = settled_says (λ r q h g. same_alike (h ∙ sym g))
settled_kbuild files (Some root) =
    settled_turned kbuild_errors run_errors bad_of_kbuild refl (plan kbuild_errors (kbuild_plan root)) (λ x y. x ≡ y) files (settled_plan kbuild_errors files (kbuild_plan root))

-- ---- all of it

pub lacks_texts : (wanted : Wanted) → MayLackMemory run_errors (texts_of wanted)
lacks_texts wanted = lacks_then (lacks_kbuild wanted.kbuild)

pub lacks_work : (said : Result Order UsageKind) → MayLackMemory run_errors (work_by said)
lacks_work (Err kind) = lacks_says
lacks_work (Ok order) = lacks_then (lacks_texts (wanted_of order))

pub stops_work : (said : Result Order UsageKind) → StopsAtFaults run_errors (work_by said)
stops_work (Err kind) = stops_says
stops_work (Ok order) = stops_then (stops_then (stops_kbuild order.kbuild) (λ conds. stops_says)) (λ texts. stops_says)

pub honest_work : (said : Result Order UsageKind) → IsHonest run_errors (work_by said)
honest_work (Err kind) = honest_says
honest_work (Ok order) = honest_then (honest_then (honest_kbuild order.kbuild) (λ conds. honest_says)) (λ texts. honest_says)

pub settled_work : (files : Bytes → Option Bytes) (said : Result Order UsageKind) → IsSettled run_errors (λ x y. x ≡ y) files (work_by said)
settled_work files (Err kind) = settled_says (λ r q h g. same_alike (h ∙ sym g))
settled_work files (Ok order) =
    settled_then (settled_then (settled_kbuild files order.kbuild) (λ conds. settled_says (λ r q h g. same_alike (h ∙ sym g)))) (λ texts. settled_says (λ r q h g. same_alike (h ∙ sym g)))

-- ---- the reads of the parts of a run

module _ {a : Stand} {u : ℕ} where
  -- no root text
  pub conds_none : {root : Option Bytes} {conds : Conds} → root ≡ None → conds ≡ names_nothing → Reads (kbuild_of root) a a u u (Ok conds)
  conds_none {root} {conds} none is = rw (none, is) (reads_ok refl)

  -- want of memory before the first read
  pub conds_lacking : (root : Option Bytes) {r : Result Conds Bad} → r ≡ Err bad.Oom → Reads (kbuild_of root) a a u u r
  conds_lacking root is = rw is (reads_memory (lacks_kbuild root))

module _ {a b : Stand} {u n : ℕ} where
  -- the texts from the root text on
  pub conds_read : {root : Option Bytes} {name : Bytes} {conds : Conds} → root ≡ Some name → Reads (plan kbuild_errors (kbuild_plan name)) a b u n (Ok conds)
      → Reads (kbuild_of root) a b u n (Ok conds)
  conds_read some h = rw some (turned_ok h)

  -- their refusal
  pub conds_refused : {root : Option Bytes} {name : Bytes} {d : KbuildBad} {r : Result Conds Bad} → root ≡ Some name → r ≡ Err (bad_of_kbuild d)
      → Reads (plan kbuild_errors (kbuild_plan name)) a b u n (Err d) → Reads (kbuild_of root) a b u n r
  conds_refused some is h = rw (some, is) (turned_err h)

module _ {a : Stand} where
  refused_words : (said : Result Order UsageKind) (e : Bad) → IsOrdered said (Err e) → Reads (work_by said) a a 0 0 (Err e)
  refused_words said (bad.Usage kind) h = rw h (reads_own refl tt)
  refused_words said (bad.Line file line kind) h = absurd h
  refused_words said (bad.Missing file) h = absurd h
  refused_words said (bad.ReadFault file) h = absurd h
  refused_words said (bad.TooLarge what count) h = absurd h
  refused_words said bad.Oom h = reads_memory (lacks_work said)

  -- words of another form
  pub works_refused : {words : List Bytes} {e : Bad} {r : Result Bytes Bad} → IsOrdered (order_of words) (Err e) → r ≡ Err e → Works words a a r
  works_refused {words} {e} {r} ordered is = record { used = 0; reads = rw is (refused_words (order_of words) e ordered) }

module _ {words : List Bytes} {order : Order} {a b : Stand} {m n : ℕ} (said : order_of words ≡ Ok order) (start : m ≡ 0) where
  ordered : {r : Result Bytes Bad} → Reads (work_by (Ok order)) a b m n r → Works words a b r
  ordered {r} h = record { used = n; reads = rw said (subst (λ u. Reads (work_by (Ok order)) a b u n r) start h) }

  -- texts that are refused
  pub works_unread : {e : Bad} {r : Result Bytes Bad} → Reads (texts_of (wanted_of order)) a b m n (Err e) → r ≡ Err e → Works words a b r
  works_unread h is = ordered (rw is (reads_err h))

  -- the job done
  pub works_done : {texts : Texts} {r : Result Bytes Bad} → Reads (texts_of (wanted_of order)) a b m n (Ok texts) → OrMemory (IsDone order texts) r → Works words a b r
  works_done {texts} {r} h made = ordered (reads_then h (by made))
    where
      by : OrMemory (IsDone order texts) r → Reads (says run_errors (IsDone order texts)) b b n n r
      by (inl is) = rw is (reads_ok refl)
      by (inr memory) = rw memory (reads_memory lacks_says)

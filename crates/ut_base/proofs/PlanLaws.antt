-- Laws of plans: one plan after another, and what a plan comes to over given files.
use Rattle.std.proofs.Common.{◌≡◌, ◌⊎◌, ◌∙◌, ℕ, inl, inr, refl, sym, subst, ap, List, ◌++◌, Option, Result, Ok, Err, append_assoc}
use Rattle.std.specs.List.{AllByRecursion}
use Rattle.ut_text.specs.Bytes.{Bytes}
use Rattle.ut_base.specs.Plans.{Plan, Gives, Refuses, Takes, Asks, ◌then◌, plan, of_result, brought, Outcome, onward, outcome}
use Rattle.ut_base.specs.Reading.{Came, Errors, Step, ◌>>=◌, Led, Ended, IsOwnOrOk, says, found, needed, asked, wanted, used_after, Agrees, Stand, Reads, LeadsTo}
use Rattle.ut_base.specs.Settled.{ComesTo, IsCut, IsSettled, IsHonest, MayLackMemory}
use Rattle.ut_base.proofs.ReadingLaws.{all_of_both, reads_as, reads_err, reads_memory, reads_says, reads_then, leads_end, lacks_says, lacks_read, lacks_then}
use Rattle.ut_base.proofs.SettledLaws.{front_cut, rest_cut, err_cut, comes_one, settled_at, honest_says, honest_then, honest_wanted, honest_asked}

module _ {A E : Type 0} {errors : Errors E} where
  -- want of memory may end a plan before its first read
  pub lacks_plan : (p : Plan A E) → MayLackMemory errors (plan errors p)
  lacks_plan (Gives x) = lacks_says
  lacks_plan (Refuses e) = lacks_says
  lacks_plan (Takes name next) = lacks_then lacks_read
  lacks_plan (Asks name next) = lacks_then lacks_read

  -- each refusal of a plan has its reason
  pub honest_plan : (p : Plan A E) → IsHonest errors (plan errors p)
  honest_plan (Gives x) = honest_says
  honest_plan (Refuses e) = honest_says
  honest_plan (Takes name next) = honest_then honest_wanted (λ bytes. honest_plan (next bytes))
  honest_plan (Asks name next) = honest_then honest_asked (λ got. honest_plan (next got))

-- an answer that needs no file, or want of memory
pub reads_result : {A E : Type 0} (errors : Errors E) {a : Stand} {u : ℕ} {r : Result A E} (q : Result A E) → IsOwnOrOk errors q → (r ≡ q) ⊎ (r ≡ Err errors.memory)
    → Reads (plan errors (of_result q)) a a u u r
reads_result errors (Ok x) own (inl is) = rw is (reads_says refl tt)
reads_result errors (Err e) own (inl is) = rw is (reads_says refl own)
reads_result errors q own (inr is) = rw is (reads_memory (lacks_plan (of_result q)))

-- ---- one plan after another

module _ {A B E : Type 0} (errors : Errors E) (f : A → Plan B E) where
  -- a value of the first leads on to the second
  led : (p : Plan A E) (x : A) (u m n : ℕ) (cs ds : List Came) (r : Result B E)
      → plan errors p u cs m (Ok x) → plan errors (f x) m ds n r → plan errors (p then f) u (cs ++ ds) n r
  led (Gives y) x u m n cs ds r h g = by h.answer
    where
      by : ((◌≡◌ {A = Result A E} (Ok x) (Ok y)) × Unit {0}) ⊎ (◌≡◌ {A = Result A E} (Ok x) (Err errors.memory)) → plan errors (f y) u (cs ++ ds) n r
      by (inl is) =
          let same : x ≡ y = (let w = is.0 in cc) in
          let at_u : plan errors (f x) u ds n r = subst (λ v. plan errors (f x) v ds n r) h.takes_nothing g in
          rw h.reads_nothing (subst (λ z. plan errors (f z) u ds n r) same at_u)
      by (inr is) = absurd (cc)
  led (Refuses e) x u m n cs ds r h g = absurd (by h.answer)
    where
      by : ((◌≡◌ {A = Result A E} (Ok x) (Err e)) × Unit {0}) ⊎ (◌≡◌ {A = Result A E} (Ok x) (Err errors.memory)) → ⊥
      by (inl is) = let w = is.0 in cc
      by (inr is) = cc
  led (Takes name next) x u m n cs ds r (Led bytes mid front rest is h k) g =
      Led bytes mid front (rest ++ ds) (ap (λ l. l ++ ds) is ∙ append_assoc front rest ds) h (led (next bytes) x mid m n rest ds r k g)
  led (Takes name next) x u m n cs ds r (Ended e h is) g = absurd (cc)
  led (Asks name next) x u m n cs ds r (Led got mid front rest is h k) g =
      Led got mid front (rest ++ ds) (ap (λ l. l ++ ds) is ∙ append_assoc front rest ds) h (led (next got) x mid m n rest ds r k g)
  led (Asks name next) x u m n cs ds r (Ended e h is) g = absurd (cc)

  -- a refusal of the first ends both
  ended : (p : Plan A E) (e : E) (u n : ℕ) (cs : List Came) → plan errors p u cs n (Err e) → plan errors (p then f) u cs n (Err e)
  ended (Gives y) e u n cs h = by h.answer
    where
      by : ((◌≡◌ {A = Result A E} (Err e) (Ok y)) × errors.IsOwn e) ⊎ (◌≡◌ {A = Result A E} (Err e) (Err errors.memory)) → plan errors (f y) u cs n (Err e)
      by (inl is) = absurd (let w = is.0 in cc)
      by (inr is) = let same : e ≡ errors.memory = cc in rw (h.reads_nothing, h.takes_nothing, same) ((lacks_plan (f y)).lacks u)
  ended (Refuses d) e u n cs h = record { reads_nothing = h.reads_nothing; takes_nothing = h.takes_nothing; answer = by h.answer }
    where
      by : ((◌≡◌ {A = Result A E} (Err e) (Err d)) × errors.IsOwn e) ⊎ (◌≡◌ {A = Result A E} (Err e) (Err errors.memory))
          → ((◌≡◌ {A = Result B E} (Err e) (Err d)) × errors.IsOwn e) ⊎ (◌≡◌ {A = Result B E} (Err e) (Err errors.memory))
      by (inl is) = let same : e ≡ d = (let w = is.0 in cc) in inl (ap Err same, is.1)
      by (inr is) = let same : e ≡ errors.memory = cc in inr (ap Err same)
  ended (Takes name next) e u n cs (Led bytes mid front rest is h k) = Led bytes mid front rest is h (ended (next bytes) e mid n rest k)
  ended (Takes name next) e u n cs (Ended d h is) = let same : e ≡ d = cc in Ended d h (ap Err same)
  ended (Asks name next) e u n cs (Led got mid front rest is h k) = Led got mid front rest is h (ended (next got) e mid n rest k)
  ended (Asks name next) e u n cs (Ended d h is) = let same : e ≡ d = cc in Ended d h (ap Err same)

  -- the reads of two plans, one after the other, are those of both
  pub plan_joined : (p : Plan A E) (u n : ℕ) (cs : List Came) (r : Result B E) → (plan errors p >>= λ x. plan errors (f x)) u cs n r → plan errors (p then f) u cs n r
  plan_joined p u n cs r (Led x mid front rest is h g) = subst (λ l. plan errors (p then f) u l n r) (sym is) (led p x u mid n front rest r h g)
  plan_joined p u n cs r (Ended e h is) = subst (plan errors (p then f) u cs n) (sym is) (ended p e u n cs h)

  pub reads_joined : (p : Plan A E) {a b : Stand} {u n : ℕ} {r : Result B E} → Reads (plan errors p >>= λ x. plan errors (f x)) a b u n r → Reads (plan errors (p then f)) a b u n r
  reads_joined p {u = u} {n = n} {r = r} h = reads_as (λ cs g. plan_joined p u n cs r g) h

  -- in a loop, past the first of two plans
  pub plan_on : (p : Plan A E) {whole : Step B E} {start : Stand} {before : ℕ} {here there : Stand} {u m : ℕ} {x : A}
      → LeadsTo whole start before (plan errors (p then f)) here u → Reads (plan errors p) here there u m (Ok x) → LeadsTo whole start before (plan errors (f x)) there m
  plan_on p leads h = record { leads = λ new now r g. leads.leads new now r (reads_joined p (reads_then h g)) }

  -- in a loop, out by a refusal of the first of two plans
  pub plan_out : (p : Plan A E) {whole : Step B E} {start : Stand} {before : ℕ} {here there : Stand} {u m : ℕ} {e : E} {r : Result B E}
      → r ≡ Err e → LeadsTo whole start before (plan errors (p then f)) here u → Reads (plan errors p) here there u m (Err e) → Reads whole start there before m r
  plan_out p {whole = whole} {start = start} {before = before} {there = there} {m = m} is leads h =
      subst (Reads whole start there before m) (sym is) (leads_end leads (reads_joined p (reads_err h)))

-- ---- over given files

module _ {A B E : Type 0} (errors : Errors E) (files : Bytes → Option Bytes) (s : Step A E) (f : A → Step B E) (after : ℕ → ℕ) (answer : ℕ → Result A E) (o : A → ℕ → Outcome B E)
    (first : (u n : ℕ) (cs : List Came) (r : Result A E) → s u cs n r → AllByRecursion (Agrees files) cs → IsCut errors cs r ⊎ ((n ≡ after u) × (r ≡ answer u)))
    (second : (x : A) (u n : ℕ) (cs : List Came) (r : Result B E) → f x u cs n r → AllByRecursion (Agrees files) cs → IsCut errors cs r ⊎ ((n ≡ (o x u).used) × (r ≡ (o x u).result))) where
  comes_then : (u n : ℕ) (cs : List Came) (r : Result B E) → (s >>= f) u cs n r → AllByRecursion (Agrees files) cs
      → IsCut errors cs r ⊎ ((n ≡ (onward o (answer u) (after u)).used) × (r ≡ (onward o (answer u) (after u)).result))
  comes_then u n cs r (Led x mid front rest is h g) agree = led (first u mid front (Ok x) h both.0)
    where
      both : AllByRecursion (Agrees files) front × AllByRecursion (Agrees files) rest
      both = all_of_both (Agrees files) front rest (subst (AllByRecursion (Agrees files)) is agree)

      onto_rest : IsCut errors rest r ⊎ ((n ≡ (o x mid).used) × (r ≡ (o x mid).result)) → mid ≡ after u → Ok x ≡ answer u
          → IsCut errors cs r ⊎ ((n ≡ (onward o (answer u) (after u)).used) × (r ≡ (onward o (answer u) (after u)).result))
      onto_rest (inl z) at ok = inl (subst (λ v. IsCut errors v r) (sym is) (rest_cut errors A B front rest r z))
      onto_rest (inr z) at ok = inr (rw (← ok, ← at) z)

      led : IsCut errors {A = A} front (Ok x) ⊎ ((mid ≡ after u) × (Ok x ≡ answer u))
          → IsCut errors cs r ⊎ ((n ≡ (onward o (answer u) (after u)).used) × (r ≡ (onward o (answer u) (after u)).result))
      led (inl z) = inl (subst (λ v. IsCut errors v r) (sym is) (front_cut errors A B x front rest r z))
      led (inr z) = onto_rest (second x mid n rest r g both.1) z.0 z.1
  comes_then u n cs r (Ended e h is) agree = ended (first u n cs (Err e) h agree)
    where
      ended : IsCut errors {A = A} cs (Err e) ⊎ ((n ≡ after u) × (Err e ≡ answer u))
          → IsCut errors cs r ⊎ ((n ≡ (onward o (answer u) (after u)).used) × (r ≡ (onward o (answer u) (after u)).result))
      ended (inl z) = inl (err_cut errors A B cs e r is z)
      ended (inr z) = inr (rw (← z.1) (z.0, is))

module _ {A E : Type 0} (errors : Errors E) (files : Bytes → Option Bytes) where
  comes_says : (answer : Result A E) (u n : ℕ) (cs : List Came) (r : Result A E) → says errors (λ q. q ≡ answer) u cs n r → IsCut errors cs r ⊎ ((n ≡ u) × (r ≡ answer))
  comes_says answer u n cs r h = by h.answer
    where
      by : ((r ≡ answer) × IsOwnOrOk errors r) ⊎ (r ≡ Err errors.memory) → IsCut errors cs r ⊎ ((n ≡ u) × (r ≡ answer))
      by (inl is) = inr (h.takes_nothing, is.0)
      by (inr is) = inl (inr is)

  -- by every way that isn't cut a plan comes to its outcome, with its bytes taken
  pub follows_held : (p : Plan A E) (u n : ℕ) (cs : List Came) (r : Result A E) → plan errors p u cs n r → AllByRecursion (Agrees files) cs
      → IsCut errors cs r ⊎ ((n ≡ (outcome errors files p u).used) × (r ≡ (outcome errors files p u).result))
  follows_held (Gives x) u n cs r h agree = comes_says (Ok x) u n cs r h
  follows_held (Refuses e) u n cs r h agree = comes_says (Err e) u n cs r h
  follows_held (Takes name next) u n cs r h agree =
      comes_then errors files (wanted errors name) (λ bytes. plan errors (next bytes)) (λ v. used_after v (brought files v name)) (λ v. needed errors v (brought files v name))
      (λ bytes. outcome errors files (next bytes)) (λ v k ds q g a. comes_one errors (needed errors) files name v k ds q g a) (λ bytes. follows_held (next bytes)) u n cs r h agree
  follows_held (Asks name next) u n cs r h agree =
      comes_then errors files (asked errors name) (λ got. plan errors (next got)) (λ v. used_after v (brought files v name)) (λ v. found errors v (brought files v name))
      (λ got. outcome errors files (next got)) (λ v k ds q g a. comes_one errors (found errors) files name v k ds q g a) (λ got. follows_held (next got)) u n cs r h agree

  -- so a plan is settled
  pub settled_plan : (p : Plan A E) → IsSettled errors (λ x y. x ≡ y) files (plan errors p)
  settled_plan p = settled_at errors files (plan errors p) (λ u. (outcome errors files p u).used) (λ u. (outcome errors files p u).result) (λ u n cs r h a. follows_held p u n cs r h a)

  -- what a plan comes to is its outcome
  pub one_outcome : (p : Plan A E) (u n : ℕ) (r : Result A E) → ComesTo errors files (plan errors p) u n r → (n ≡ (outcome errors files p u).used) × (r ≡ (outcome errors files p u).result)
  one_outcome p u n r h = by (follows_held p u n h.came r h.follows h.agrees)
    where
      by : IsCut errors h.came r ⊎ ((n ≡ (outcome errors files p u).used) × (r ≡ (outcome errors files p u).result)) → (n ≡ (outcome errors files p u).used) × (r ≡ (outcome errors files p u).result)
      by (inl cut) = absurd (h.uncut cut)
      by (inr is) = is

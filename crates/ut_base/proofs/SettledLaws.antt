-- What steps come to over given files, and the reasons of their refusals: laws of steps one after another, of one read,
-- and of turned refusals.
use Rattle.std.proofs.Common.{◌≡◌, ◌⊎◌, ◌∙◌, ◌≤◌, ◌<◌, ◌+◌, ℕ, nat_lt, true, false, inl, inr, refl, sym, subst, ap, rules, List, [], ◌∷◌, ◌++◌, Option, Some, None, Result, Ok, Err, length}
use Rattle.std.specs.Prelude.{IfSome}
use Rattle.std.specs.FinMap.{get}
use Rattle.std.specs.List.{AllByRecursion}
use Rattle.std.specs.Result.{result_map_both}
use Rattle.ut_text.specs.Bytes.{Bytes}
use Rattle.ut_base.specs.Limits.{file_bytes, all_bytes}
use Rattle.ut_base.specs.Outside.{Held, Rose}
use Rattle.ut_base.specs.Plans.{brought}
use Rattle.ut_base.specs.Reading.{Came, Gave, Over, Gone, TooLong, Broke, Errors, Step, ◌>>=◌, Led, Ended, turned, used_after, MayBring, IsOwnOrOk, says, found, needed, one_read, Read, Lacked, asked, wanted, each, Agrees, SomeRead, IsBroke, Stand, Reads}
use Rattle.ut_base.specs.Settled.{AreAlike, IsCut, IsSettled, ComesTo, MayRefuse, HasReason, IsHonest, IsTurn}
use Rattle.ut_base.proofs.ReadingLaws.{some_in_front, some_in_rest, all_of_both}

-- ---- two ways through a step

module _ {E : Type 0} (errors : Errors E) (A B : Type 0) where
  -- a cut front cuts the whole
  pub front_cut : (x : A) (fs rs : List Came) (r : Result B E) → IsCut errors {A = A} fs (Ok x) → IsCut errors (fs ++ rs) r
  front_cut x fs rs r (inl broke) = inl (some_in_front IsBroke fs rs broke)
  front_cut x fs rs r (inr h) = absurd (cc)

  -- a cut rest cuts the whole
  pub rest_cut : (fs rs : List Came) (r : Result B E) → IsCut errors rs r → IsCut errors (fs ++ rs) r
  rest_cut fs rs r (inl broke) = inl (some_in_rest IsBroke fs rs broke)
  rest_cut fs rs r (inr h) = inr h

  -- a refusal that is handed on is cut where it was
  pub err_cut : (cs : List Came) (e : E) (r : Result B E) → r ≡ Err e → IsCut errors {A = A} cs (Err e) → IsCut errors cs r
  err_cut cs e r is (inl broke) = inl broke
  err_cut cs e r is (inr h) = let same : e ≡ errors.memory = cc in inr (is ∙ ap Err same)

module _ {A B E : Type 0} (errors : Errors E) (Same : B → B → Type 0) (files : Bytes → Option Bytes) (s : Step A E) (f : A → Step B E)
    (first : IsSettled errors (λ x y. x ≡ y) files s) (second : (x : A) → IsSettled errors Same files (f x)) where
  ways : (u n k : ℕ) (cs ds : List Came) (r q : Result B E) → AllByRecursion (Agrees files) cs → AllByRecursion (Agrees files) ds
      → (s >>= f) u cs n r → (s >>= f) u ds k q → IsCut errors cs r ⊎ (IsCut errors ds q ⊎ ((n ≡ k) × AreAlike Same r q))
  ways u n k cs ds r q a b (Led x i fs rs e h g) (Led y j gs ts d o p) = led (first.alike u i j fs gs (Ok x) (Ok y) aa.0 bb.0 h o)
    where
      aa : AllByRecursion (Agrees files) fs × AllByRecursion (Agrees files) rs
      aa = all_of_both (Agrees files) fs rs (subst (AllByRecursion (Agrees files)) e a)

      bb : AllByRecursion (Agrees files) gs × AllByRecursion (Agrees files) ts
      bb = all_of_both (Agrees files) gs ts (subst (AllByRecursion (Agrees files)) d b)

      rest : IsCut errors rs r ⊎ (IsCut errors ts q ⊎ ((n ≡ k) × AreAlike Same r q)) → IsCut errors cs r ⊎ (IsCut errors ds q ⊎ ((n ≡ k) × AreAlike Same r q))
      rest (inl z) = inl (subst (λ v. IsCut errors v r) (sym e) (rest_cut errors A B fs rs r z))
      rest (inr (inl z)) = inr (inl (subst (λ v. IsCut errors v q) (sym d) (rest_cut errors A B gs ts q z)))
      rest (inr (inr z)) = inr (inr z)

      led : IsCut errors {A = A} fs (Ok x) ⊎ (IsCut errors {A = A} gs (Ok y) ⊎ ((i ≡ j) × (x ≡ y))) → IsCut errors cs r ⊎ (IsCut errors ds q ⊎ ((n ≡ k) × AreAlike Same r q))
      led (inl z) = inl (subst (λ v. IsCut errors v r) (sym e) (front_cut errors A B x fs rs r z))
      led (inr (inl z)) = inr (inl (subst (λ v. IsCut errors v q) (sym d) (front_cut errors A B y gs ts q z)))
      led (inr (inr z)) =
          let at_j : f x j rs n r = subst (λ v. f x v rs n r) z.0 g in
          rest ((second y).alike j n k rs ts r q aa.1 bb.1 (subst (λ v. f v j rs n r) z.1 at_j) p)
  ways u n k cs ds r q a b (Led x i fs rs e h g) (Ended c o p) = ended (first.alike u i k fs ds (Ok x) (Err c) aa b h o)
    where
      aa : AllByRecursion (Agrees files) fs
      aa = (all_of_both (Agrees files) fs rs (subst (AllByRecursion (Agrees files)) e a)).0

      ended : IsCut errors {A = A} fs (Ok x) ⊎ (IsCut errors {A = A} ds (Err c) ⊎ ((i ≡ k) × ⊥)) → IsCut errors cs r ⊎ (IsCut errors ds q ⊎ ((n ≡ k) × AreAlike Same r q))
      ended (inl z) = inl (subst (λ v. IsCut errors v r) (sym e) (front_cut errors A B x fs rs r z))
      ended (inr (inl z)) = inr (inl (err_cut errors A B ds c q p z))
      ended (inr (inr z)) = absurd z.1
  ways u n k cs ds r q a b (Ended c o p) (Led x i fs rs e h g) = ended (first.alike u n i cs fs (Err c) (Ok x) a aa o h)
    where
      aa : AllByRecursion (Agrees files) fs
      aa = (all_of_both (Agrees files) fs rs (subst (AllByRecursion (Agrees files)) e b)).0

      ended : IsCut errors {A = A} cs (Err c) ⊎ (IsCut errors {A = A} fs (Ok x) ⊎ ((n ≡ i) × ⊥)) → IsCut errors cs r ⊎ (IsCut errors ds q ⊎ ((n ≡ k) × AreAlike Same r q))
      ended (inl z) = inl (err_cut errors A B cs c r p z)
      ended (inr (inl z)) = inr (inl (subst (λ v. IsCut errors v q) (sym e) (front_cut errors A B x fs rs q z)))
      ended (inr (inr z)) = absurd z.1
  ways u n k cs ds r q a b (Ended c o p) (Ended d v w) = ended (first.alike u n k cs ds (Err c) (Err d) a b o v)
    where
      ended : IsCut errors {A = A} cs (Err c) ⊎ (IsCut errors {A = A} ds (Err d) ⊎ ((n ≡ k) × (c ≡ d))) → IsCut errors cs r ⊎ (IsCut errors ds q ⊎ ((n ≡ k) × AreAlike Same r q))
      ended (inl z) = inl (err_cut errors A B cs c r p z)
      ended (inr (inl z)) = inr (inl (err_cut errors A B ds d q w z))
      ended (inr (inr z)) = inr (inr (z.0, rw (p, w) z.1))

-- two settled steps, one after the other
pub settled_then : {A B E : Type 0} {errors : Errors E} {Same : B → B → Type 0} {files : Bytes → Option Bytes} {s : Step A E} {f : A → Step B E}
    → IsSettled errors (λ x y. x ≡ y) files s → ((x : A) → IsSettled errors Same files (f x)) → IsSettled errors Same files (s >>= f)
settled_then {errors = errors} {Same = Same} {files = files} {s = s} {f = f} first second = record { alike = ways errors Same files s f first second }

-- ---- what a read brings

within : (x y : ℕ) → x ≤ y → nat_lt y x ≡ false
within x y h = search rules

past : (x y : ℕ) → y < x → nat_lt y x ≡ true
past x y h = search rules

-- what came is what the files held bring, unless the read failed
pub brought_is : (files : Bytes → Option Bytes) (name : Bytes) (u : ℕ) (c : Came) → MayBring name u c → Agrees files c → IsBroke c ⊎ (c ≡ brought files u name)
brought_is files name u (Gave n bytes) may agrees =
    let has : files name ≡ Some bytes = subst (λ x. files x ≡ Some bytes) may.0 agrees in
    let a = within (length bytes) file_bytes may.1 in
    let b = within (u + length bytes) all_bytes may.2 in
    inr (rw (has, a, b) (ap (λ x. Gave x bytes) may.0))
brought_is files name u (Over n size) may agrees =
    let bytes = agrees.0 in
    let has : files name ≡ Some bytes = subst (λ x. files x ≡ Some bytes) may.0 agrees.1 in
    let a = within (length bytes) file_bytes (subst (λ x. x ≤ file_bytes) agrees.2 may.1) in
    let b = past (u + length bytes) all_bytes (subst (λ x. all_bytes < u + x) agrees.2 may.2) in
    inr (rw (has, a, b) (ap (λ x. Over x size) may.0 ∙ ap (Over name) agrees.2))
brought_is files name u (Gone n) may agrees =
    let has : files name ≡ None = subst (λ x. files x ≡ None) may agrees in
    inr (rw has (ap Gone may))
brought_is files name u (TooLong n) may agrees =
    let bytes = agrees.0 in
    let has : files name ≡ Some bytes = subst (λ x. files x ≡ Some bytes) may agrees.1 in
    let a = past (length bytes) file_bytes agrees.2 in
    inr (rw (has, a) (ap TooLong may))
brought_is files name u (Broke n) may agrees = inl tt

-- ---- answers

alike : {A E : Type 0} (r : Result A E) → AreAlike (λ x y. x ≡ y) r r
alike (Ok x) = refl
alike (Err e) = refl

-- equal answers are alike
pub same_alike : {A E : Type 0} {r q : Result A E} → r ≡ q → AreAlike (λ x y. x ≡ y) r q
same_alike {r = r} h = subst (AreAlike (λ x y. x ≡ y) r) h (alike r)

module _ {A E : Type 0} {errors : Errors E} where
  -- an answer that needs no read is settled where what it may be is
  pub settled_says : {Same : A → A → Type 0} {files : Bytes → Option Bytes} {is : Result A E → Type 0}
      → ((r q : Result A E) → is r → is q → AreAlike Same r q) → IsSettled errors Same files (says errors is)
  settled_says {Same = Same} {is = is} one = record { alike = λ u n k cs ds r q a b h g. by u n k cs ds r q h g h.answer g.answer }
    where
      by : (u n k : ℕ) (cs ds : List Came) (r q : Result A E) → says errors is u cs n r → says errors is u ds k q
          → (is r × IsOwnOrOk errors r) ⊎ (r ≡ Err errors.memory) → (is q × IsOwnOrOk errors q) ⊎ (q ≡ Err errors.memory)
          → IsCut errors cs r ⊎ (IsCut errors ds q ⊎ ((n ≡ k) × AreAlike Same r q))
      by u n k cs ds r q h g (inl x) (inl y) = inr (inr (h.takes_nothing ∙ sym g.takes_nothing, one r q x.0 y.0))
      by u n k cs ds r q h g (inl x) (inr y) = inr (inl (inr y))
      by u n k cs ds r q h g (inr x) y = inl (inr x)

-- ---- one read

module _ {A E : Type 0} (errors : Errors E) where
  -- one read comes to the answer that what is held gives, unless it is cut
  pub comes_one : (answer : ℕ → Came → Result A E) (files : Bytes → Option Bytes) (name : Bytes) (u n : ℕ) (cs : List Came) (r : Result A E)
      → one_read errors answer name u cs n r → AllByRecursion (Agrees files) cs
      → IsCut errors cs r ⊎ ((n ≡ used_after u (brought files u name)) × (r ≡ answer u (brought files u name)))
  comes_one answer files name u n cs r (Lacked empty at is) agrees = inl (inr is)
  comes_one answer files name u n cs r (Read c one may at is) agrees = by (brought_is files name u c may (subst (AllByRecursion (Agrees files)) one agrees).0)
    where
      by : IsBroke c ⊎ (c ≡ brought files u name) → IsCut errors cs r ⊎ ((n ≡ used_after u (brought files u name)) × (r ≡ answer u (brought files u name)))
      by (inl broke) = inl (inl (subst (SomeRead IsBroke) (sym one) (inl broke)))
      by (inr came) = inr (at ∙ ap (used_after u) came, is ∙ ap (answer u) came)

  -- a step that comes to one answer, unless it is cut, is settled
  pub settled_at : (files : Bytes → Option Bytes) (s : Step A E) (after : ℕ → ℕ) (answer : ℕ → Result A E)
      → ((u n : ℕ) (cs : List Came) (r : Result A E) → s u cs n r → AllByRecursion (Agrees files) cs → IsCut errors cs r ⊎ ((n ≡ after u) × (r ≡ answer u)))
      → IsSettled errors (λ x y. x ≡ y) files s
  settled_at files s after answer comes = record { alike = λ u n k cs ds r q a b h g. by u n k cs ds r q (comes u n cs r h a) (comes u k ds q g b) }
    where
      by : (u n k : ℕ) (cs ds : List Came) (r q : Result A E) → IsCut errors cs r ⊎ ((n ≡ after u) × (r ≡ answer u)) → IsCut errors ds q ⊎ ((k ≡ after u) × (q ≡ answer u))
          → IsCut errors cs r ⊎ (IsCut errors ds q ⊎ ((n ≡ k) × AreAlike (λ x y. x ≡ y) r q))
      by u n k cs ds r q (inl x) y = inl x
      by u n k cs ds r q (inr x) (inl y) = inr (inl y)
      by u n k cs ds r q (inr x) (inr y) = inr (inr (x.0 ∙ sym y.0, same_alike (x.1 ∙ sym y.1)))

  -- one read is settled
  pub settled_read : (files : Bytes → Option Bytes) (answer : ℕ → Came → Result A E) (name : Bytes) → IsSettled errors (λ x y. x ≡ y) files (one_read errors answer name)
  settled_read files answer name =
      settled_at files (one_read errors answer name) (λ u. used_after u (brought files u name)) (λ u. answer u (brought files u name))
      (λ u n cs r h a. comes_one answer files name u n cs r h a)

  -- a loop over settled steps is settled
  pub settled_each : {N : Type 0} (files : Bytes → Option Bytes) (step : A → N → Step A E) → ((x : A) (n : N) → IsSettled errors (λ x y. x ≡ y) files (step x n))
      → (x : A) (ns : List N) → IsSettled errors (λ x y. x ≡ y) files (each errors step x ns)
  settled_each files step one x [] = settled_says (λ r q h g. same_alike (h ∙ sym g))
  settled_each files step one x (n ∷ ns) = settled_then (one x n) (λ y. settled_each files step one y ns)

-- ---- refusals turned

module _ {A D E : Type 0} (from : Errors D) (to : Errors E) (g : D → E) (memory : g from.memory ≡ to.memory) (s : Step A D) where
  cut_turned : (cs : List Came) (q : Result A D) (r : Result A E) → r ≡ result_map_both (λ x. x) g q → IsCut from cs q → IsCut to cs r
  cut_turned cs q r is (inl broke) = inl broke
  cut_turned cs q r is (inr h) = inr (is ∙ ap (result_map_both (λ x. x) g) h ∙ ap Err memory)

  alike_turned : (Same : A → A → Type 0) (p q : Result A D) → AreAlike Same p q → AreAlike Same (result_map_both (λ x. x) g p) (result_map_both (λ x. x) g q)
  alike_turned Same (Ok x) (Ok y) h = h
  alike_turned Same (Ok x) (Err e) h = absurd h
  alike_turned Same (Err d) (Ok y) h = absurd h
  alike_turned Same (Err d) (Err e) h = ap g h

  -- a settled step whose refusals are turned is settled
  pub settled_turned : (Same : A → A → Type 0) (files : Bytes → Option Bytes) → IsSettled from Same files s → IsSettled to Same files (turned g s)
  settled_turned Same files settled = record {
    alike = λ u n k cs ds r q a b h p.
        by u n k cs ds r q h p (settled.alike u n k cs ds h.before p.before a b h.follows p.follows);
  }
    where
      by : (u n k : ℕ) (cs ds : List Came) (r q : Result A E) (h : turned g s u cs n r) (p : turned g s u ds k q)
          → IsCut from cs h.before ⊎ (IsCut from ds p.before ⊎ ((n ≡ k) × AreAlike Same h.before p.before)) → IsCut to cs r ⊎ (IsCut to ds q ⊎ ((n ≡ k) × AreAlike Same r q))
      by u n k cs ds r q h p (inl x) = inl (cut_turned cs h.before r h.answer x)
      by u n k cs ds r q h p (inr (inl x)) = inr (inl (cut_turned ds p.before q p.answer x))
      by u n k cs ds r q h p (inr (inr x)) = inr (inr (x.0, rw (h.answer, p.answer) (alike_turned Same h.before p.before x.1)))

-- ---- a whole call

agreed : {A E : Type 0} {m : Held} {s : Step A E} {old new : Stand} {used now : ℕ} {r : Result A E} → old.held ≡ Some m
    → (reads : Reads s old new used now r) → AllByRecursion (Agrees (get m)) reads.came
agreed known reads = subst (λ o. IfSome o (λ held. AllByRecursion (Agrees (get held)) reads.came)) known reads.agrees

module _ {A E : Type 0} {errors : Errors E} {m : Held} {s : Step A E} {old new : Stand} {used now : ℕ} {r : Result A E}
    (known : old.held ≡ Some m) (calm : Rose old.faults new.faults → ⊥) (reads : Reads s old new used now r) where
  -- where no count of faults rose and memory was at hand, the step comes to the answer over the files held
  pub reads_come : (r ≡ Err errors.memory → ⊥) → ComesTo errors (get m) s used now r
  reads_come remembered = record { came = reads.came; follows = reads.follows; agrees = agreed known reads; uncut = uncut }
    where
      uncut : IsCut errors reads.came r → ⊥
      uncut (inl broke) = calm (reads.broke.rose broke)
      uncut (inr memory) = remembered memory

  -- what the step comes to over the files held is alike to the answer, or memory was wanting
  pub reads_exact : {Same : A → A → Type 0} {k : ℕ} {o : Result A E} → IsSettled errors Same (get m) s → ComesTo errors (get m) s used k o
      → AreAlike Same r o ⊎ (r ≡ Err errors.memory)
  reads_exact {Same = Same} {k = k} {o = o} settled way = by (settled.alike used now k reads.came way.came r o (agreed known reads) way.agrees reads.follows way.follows)
    where
      by : IsCut errors reads.came r ⊎ (IsCut errors way.came o ⊎ ((now ≡ k) × AreAlike Same r o)) → AreAlike Same r o ⊎ (r ≡ Err errors.memory)
      by (inl (inl broke)) = absurd (calm (reads.broke.rose broke))
      by (inl (inr memory)) = inr memory
      by (inr (inl cut)) = absurd (way.uncut cut)
      by (inr (inr h)) = inl h.1

-- two answers that a settled step comes to over the same files are alike
pub one_answer : {A E : Type 0} {errors : Errors E} {Same : A → A → Type 0} {files : Bytes → Option Bytes} {s : Step A E} {u n k : ℕ} {r q : Result A E}
    → IsSettled errors Same files s → ComesTo errors files s u n r → ComesTo errors files s u k q → (n ≡ k) × AreAlike Same r q
one_answer {errors = errors} {Same = Same} {u = u} {n = n} {k = k} {r = r} {q = q} settled h g =
    by (settled.alike u n k h.came g.came r q h.agrees g.agrees h.follows g.follows)
  where
    by : IsCut errors h.came r ⊎ (IsCut errors g.came q ⊎ ((n ≡ k) × AreAlike Same r q)) → (n ≡ k) × AreAlike Same r q
    by (inl x) = absurd (h.uncut x)
    by (inr (inl x)) = absurd (g.uncut x)
    by (inr (inr x)) = x

-- ---- reasons of refusals

found_reason : {E : Type 0} (errors : Errors E) (u : ℕ) (c : Came) (e : E) → Err e ≡ found errors u c → MayRefuse errors e c
found_reason errors u (Gave name bytes) e h = absurd (cc)
found_reason errors u (Over name size) e h = (u + size, cc)
found_reason errors u (Gone name) e h = absurd (cc)
found_reason errors u (TooLong name) e h = cc
found_reason errors u (Broke name) e h = cc

needed_reason : {E : Type 0} (errors : Errors E) (u : ℕ) (c : Came) (e : E) → Err e ≡ needed errors u c → MayRefuse errors e c
needed_reason errors u (Gave name bytes) e h = absurd (cc)
needed_reason errors u (Over name size) e h = (u + size, cc)
needed_reason errors u (Gone name) e h = cc
needed_reason errors u (TooLong name) e h = cc
needed_reason errors u (Broke name) e h = cc

-- reads of one kind are of another that it implies
pub some_as : {P Q : Came → Type 0} → ((c : Came) → P c → Q c) → (cs : List Came) → SomeRead P cs → SomeRead Q cs
some_as f [] h = absurd h
some_as f (c ∷ cs) (inl h) = inl (f c h)
some_as f (c ∷ cs) (inr h) = inr (some_as f cs h)

-- a refusal of reading's that isn't want of memory rests on a read that may bring it about
pub reason_read : {E : Type 0} (errors : Errors E) (P : Came → Type 0) (e : E) (cs : List Came) → (errors.IsOwn e → ⊥) → (e ≡ errors.memory → ⊥)
    → ((c : Came) → MayRefuse errors e c → P c) → HasReason errors e cs → SomeRead P cs
reason_read errors P e cs foreign remembered leads (inl own) = absurd (foreign own)
reason_read errors P e cs foreign remembered leads (inr (inl memory)) = absurd (remembered memory)
reason_read errors P e cs foreign remembered leads (inr (inr some)) = some_as leads cs some

module _ {E : Type 0} {errors : Errors E} where
  pub honest_says : {A : Type 0} {is : Result A E → Type 0} → IsHonest errors (says errors is)
  honest_says {A} {is} = record { reason = λ u n cs e h. by cs e h.answer }
    where
      by : (cs : List Came) (e : E) → (is (Err e) × errors.IsOwn e) ⊎ (◌≡◌ {A = Result A E} (Err e) (Err errors.memory)) → HasReason errors e cs
      by cs e (inl h) = inl h.1
      by cs e (inr h) = let same : e ≡ errors.memory = cc in inr (inl same)

  pub honest_read : {A : Type 0} {answer : ℕ → Came → Result A E} {name : Bytes} → ((u : ℕ) (c : Came) (e : E) → Err e ≡ answer u c → MayRefuse errors e c)
      → IsHonest errors (one_read errors answer name)
  honest_read {A} {answer} {name} why = record { reason = by }
    where
      by : (u n : ℕ) (cs : List Came) (e : E) → one_read errors answer name u cs n (Err e) → HasReason errors e cs
      by u n cs e (Lacked empty at is) = let same : e ≡ errors.memory = cc in inr (inl same)
      by u n cs e (Read c one may at is) = inr (inr (subst (SomeRead (MayRefuse errors e)) (sym one) (inl (why u c e is))))

  pub honest_asked : {name : Bytes} → IsHonest errors (asked errors name)
  honest_asked = honest_read (found_reason errors)

  pub honest_wanted : {name : Bytes} → IsHonest errors (wanted errors name)
  honest_wanted = honest_read (needed_reason errors)

  pub honest_then : {A B : Type 0} {s : Step A E} {f : A → Step B E} → IsHonest errors s → ((x : A) → IsHonest errors (f x)) → IsHonest errors (s >>= f)
  honest_then {A} {B} {s} {f} first second = record { reason = by }
    where
      later : (e : E) (fs rs : List Came) → HasReason errors e rs → HasReason errors e (fs ++ rs)
      later e fs rs (inl own) = inl own
      later e fs rs (inr (inl memory)) = inr (inl memory)
      later e fs rs (inr (inr some)) = inr (inr (some_in_rest (MayRefuse errors e) fs rs some))

      by : (u n : ℕ) (cs : List Came) (e : E) → (s >>= f) u cs n (Err e) → HasReason errors e cs
      by u n cs e (Led x m fs rs d h g) = subst (HasReason errors e) (sym d) (later e fs rs ((second x).reason m n rs e g))
      by u n cs e (Ended c h p) = let same : e ≡ c = cc in subst (λ x. HasReason errors x cs) (sym same) (first.reason u n cs c h)

  pub honest_each : {N A : Type 0} (step : A → N → Step A E) → ((x : A) (n : N) → IsHonest errors (step x n)) → (x : A) (ns : List N) → IsHonest errors (each errors step x ns)
  honest_each step one x [] = honest_says
  honest_each step one x (n ∷ ns) = honest_then (one x n) (λ y. honest_each step one y ns)

module _ {D E : Type 0} {from : Errors D} {to : Errors E} {g : D → E} (turn : IsTurn from to g) where
  turned_reason : (d : D) (c : Came) → MayRefuse from d c → MayRefuse to (g d) c
  turned_reason d (Gave name bytes) h = absurd h
  turned_reason d (Over name size) h = (h.0, ap g h.1 ∙ turn.all h.0)
  turned_reason d (Gone name) h = ap g h ∙ turn.missing name
  turned_reason d (TooLong name) h = ap g h ∙ turn.file
  turned_reason d (Broke name) h = ap g h ∙ turn.fault name

  has_turned : (d : D) (cs : List Came) → HasReason from d cs → HasReason to (g d) cs
  has_turned d cs (inl own) = inl (turn.own d own)
  has_turned d cs (inr (inl memory)) = inr (inl (ap g memory ∙ turn.memory))
  has_turned d cs (inr (inr some)) = inr (inr (some_as (turned_reason d) cs some))

  -- turned refusals keep their reasons
  pub honest_turned : {A : Type 0} {s : Step A D} → IsHonest from s → IsHonest to (turned g s)
  honest_turned {A} {s} honest = record { reason = λ u n cs e h. by u n cs e h.before h.follows h.answer }
    where
      by : (u n : ℕ) (cs : List Came) (e : E) (q : Result A D) → s u cs n q → Err e ≡ result_map_both (λ x. x) g q → HasReason to e cs
      by u n cs e (Ok x) h is = absurd (cc)
      by u n cs e (Err d) h is = let same : e ≡ g d = cc in subst (λ x. HasReason to x cs) (sym same) (has_turned d cs (honest.reason u n cs d h))

-- Laws of reading: how the reads of a call are put together from those of the calls in it.
use Rattle.std.proofs.Common.{◌≡◌, ◌⊎◌, ◌∙◌, ◌≤◌, ◌<◌, ◌+◌, ℕ, inl, inr, refl, sym, subst, ap, arith, List, [], ◌∷◌, ◌++◌, Option, Some, None, Result, Ok, Err, length, drop, get_or}
use Rattle.std.specs.Prelude.{IfSome, IsErrAnd}
use Rattle.std.specs.FinMap.{get}
use Rattle.std.specs.List.{AllByRecursion}
use Rattle.std.specs.Result.{result_map_both}
use Rattle.std.proofs.lemmas.Result.{err_from_is_err_and}
use Rattle.std.proofs.lemmas.List.{drop_all, at_drop_more}
use Rattle.ut_text.specs.Bytes.{Bytes}
use Rattle.ut_base.specs.Outside.{Held, HasCause, Rose}
use Rattle.ut_base.specs.Reading.{Came, Errors, Step, ◌>>=◌, Led, Ended, turned, IsOwnOrOk, says, one_read, Lacked, each, Agrees, SomeRead, IsBroke, IsGone, IsTooLong, Stand, Reads, LeadsTo}
use Rattle.ut_base.specs.Settled.{MayLackMemory}

-- ---- lists of reads

module _ (P : Came → Type 0) where
  -- a read among the first or among the rest
  pub some_of_both : (cs ds : List Came) → SomeRead P (cs ++ ds) → SomeRead P cs ⊎ SomeRead P ds
  some_of_both [] ds h = inr h
  some_of_both (c ∷ cs) ds (inl h) = inl (inl h)
  some_of_both (c ∷ cs) ds (inr h) = by (some_of_both cs ds h)
    where
      by : SomeRead P cs ⊎ SomeRead P ds → SomeRead P (c ∷ cs) ⊎ SomeRead P ds
      by (inl x) = inl (inr x)
      by (inr y) = inr y

  pub some_in_front : (cs ds : List Came) → SomeRead P cs → SomeRead P (cs ++ ds)
  some_in_front [] ds h = absurd h
  some_in_front (c ∷ cs) ds (inl h) = inl h
  some_in_front (c ∷ cs) ds (inr h) = inr (some_in_front cs ds h)

  pub some_in_rest : (cs ds : List Came) → SomeRead P ds → SomeRead P (cs ++ ds)
  some_in_rest [] ds h = h
  some_in_rest (c ∷ cs) ds h = inr (some_in_rest cs ds h)

  pub all_in_both : (cs ds : List Came) → AllByRecursion P cs → AllByRecursion P ds → AllByRecursion P (cs ++ ds)
  all_in_both [] ds h g = g
  all_in_both (c ∷ cs) ds h g = (h.0, all_in_both cs ds h.1 g)

  pub all_of_both : (cs ds : List Came) → AllByRecursion P (cs ++ ds) → AllByRecursion P cs × AllByRecursion P ds
  all_of_both [] ds h = (tt, h)
  all_of_both (c ∷ cs) ds h = let k = all_of_both cs ds h.1 in ((h.0, k.0), k.1)

-- ---- counts, and what is held

-- a count over two calls
both : {P Q R : Type 0} (a b c : ℕ) → HasCause a b P → HasCause b c Q → (R → P ⊎ Q) → HasCause a c R
both {P = P} {Q = Q} a b c h g split = record { later = omega (arith, h.later, g.later); rose = λ r. by (split r) }
  where
    by : P ⊎ Q → Rose a c
    by (inl p) = let x = h.rose p in omega (arith, x, g.later)
    by (inr q) = let x = g.rose q in omega (arith, x, h.later)

agree_both : (o : Option Held) (cs ds : List Came) → IfSome o (λ m. AllByRecursion (Agrees (get m)) cs) → IfSome o (λ m. AllByRecursion (Agrees (get m)) ds)
    → IfSome o (λ m. AllByRecursion (Agrees (get m)) (cs ++ ds))
agree_both None cs ds h g = tt
agree_both (Some m) cs ds h g = all_in_both (Agrees (get m)) cs ds h g

-- ---- one step after another

-- a value leads on
pub reads_then : {A B E : Type 0} {s : Step A E} {f : A → Step B E} {x : A} {a b c : Stand} {u m n : ℕ} {r : Result B E}
    → Reads s a b u m (Ok x) → Reads (f x) b c m n r → Reads (s >>= f) a c u n r
reads_then {x = x} {a = a} {b = b} {c = c} {m = m} h g = record {
  came = h.came ++ g.came;
  follows = Led x m h.came g.came refl h.follows g.follows;
  agrees = agree_both a.held h.came g.came h.agrees (subst (λ o. IfSome o (λ m. AllByRecursion (Agrees (get m)) g.came)) h.same g.agrees);
  same = g.same ∙ h.same;
  broke = both a.faults b.faults c.faults h.broke g.broke (some_of_both IsBroke h.came g.came);
  gone = both a.missing b.missing c.missing h.gone g.gone (some_of_both IsGone h.came g.came);
  too_long = both a.long b.long c.long h.too_long g.too_long (some_of_both IsTooLong h.came g.came);
}

-- a value leads on, where it is known to be this one
pub reads_onto : {A B E : Type 0} {s : Step A E} {f : A → Step B E} {x y : A} {a b c : Stand} {u m n : ℕ} {r : Result B E}
    → y ≡ x → Reads s a b u m (Ok y) → Reads (f x) b c m n r → Reads (s >>= f) a c u n r
reads_onto {s = s} {a = a} {b = b} {u = u} {m = m} is h g = reads_then (subst (λ v. Reads s a b u m (Ok v)) is h) g

-- a step that follows from another
pub reads_as : {A B D E : Type 0} {s : Step A D} {t : Step B E} {a b : Stand} {u n : ℕ} {q : Result A D} {r : Result B E}
    → ((cs : List Came) → s u cs n q → t u cs n r) → Reads s a b u n q → Reads t a b u n r
reads_as leads h = record {
  came = h.came;
  follows = leads h.came h.follows;
  agrees = h.agrees;
  same = h.same;
  broke = h.broke;
  gone = h.gone;
  too_long = h.too_long;
}

-- a refusal ends
pub reads_err : {A B E : Type 0} {s : Step A E} {f : A → Step B E} {e : E} {a b : Stand} {u n : ℕ}
    → Reads s a b u n (Err e) → Reads (s >>= f) a b u n (Err e)
reads_err {e = e} h = reads_as (λ cs g. Ended e g refl) h

-- what the exit by `?` returns
pub exit_is : {B E : Type 0} {r : Result B E} {e : E} → IsErrAnd r (λ y. y ≡ e) → r ≡ Err e
exit_is {r = r} is = let p = err_from_is_err_and r is in p.1 ∙ ap Err p.2

-- the exit by `?`
pub reads_exit : {A B E : Type 0} {s : Step A E} {f : A → Step B E} {e : E} {a b : Stand} {u n : ℕ} {r : Result B E}
    → IsErrAnd r (λ y. y ≡ e) → Reads s a b u n (Err e) → Reads (s >>= f) a b u n r
reads_exit {s = s} {f = f} {a = a} {b = b} {u = u} {n = n} is h = subst (Reads (s >>= f) a b u n) (sym (exit_is is)) (reads_err h)

-- a step whose refusals are turned
pub reads_turned : {A D E : Type 0} {g : D → E} {s : Step A D} {a b : Stand} {u n : ℕ} {q : Result A D} {r : Result A E}
    → r ≡ result_map_both (λ x. x) g q → Reads s a b u n q → Reads (turned g s) a b u n r
reads_turned {q = q} is h = reads_as (λ cs k. record { before = q; follows = k; answer = is }) h

-- its value stays
pub turned_ok : {A D E : Type 0} {g : D → E} {s : Step A D} {a b : Stand} {u n : ℕ} {x : A} → Reads s a b u n (Ok x) → Reads (turned g s) a b u n (Ok x)
turned_ok h = reads_turned refl h

-- its refusal is turned
pub turned_err : {A D E : Type 0} {g : D → E} {s : Step A D} {a b : Stand} {u n : ℕ} {d : D} → Reads s a b u n (Err d) → Reads (turned g s) a b u n (Err (g d))
turned_err h = reads_turned refl h

-- no read at all
no_reads : {A E : Type 0} {s : Step A E} {a : Stand} {u : ℕ} {r : Result A E} → s u [] u r → Reads s a a u u r
no_reads {a = a} h = record {
  came = [];
  follows = h;
  agrees = by a.held;
  same = refl;
  broke = record { later = omega arith; rose = λ x. absurd x };
  gone = record { later = omega arith; rose = λ x. absurd x };
  too_long = record { later = omega arith; rose = λ x. absurd x };
}
  where
    by : (o : Option Held) → IfSome o (λ m. AllByRecursion (Agrees (get m)) [])
    by None = tt
    by (Some m) = tt

module _ {E : Type 0} {errors : Errors E} where
  -- an answer that needs no read
  pub reads_says : {A : Type 0} {is : Result A E → Type 0} {a : Stand} {u : ℕ} {r : Result A E} → is r → IsOwnOrOk errors r → Reads (says errors is) a a u u r
  reads_says h own = no_reads (record { reads_nothing = refl; takes_nothing = refl; answer = inl (h, own) })

  -- a value that needs no read
  pub reads_ok : {A : Type 0} {is : Result A E → Type 0} {a : Stand} {u : ℕ} {x : A} → is (Ok x) → Reads (says errors is) a a u u (Ok x)
  reads_ok h = reads_says h tt

  -- a refusal that is none of reading's
  pub reads_own : {A : Type 0} {is : Result A E → Type 0} {a : Stand} {u : ℕ} {e : E} → is (Err e) → errors.IsOwn e → Reads (says errors is) a a u u (Err e)
  reads_own h own = reads_says h own

  -- want of memory before the first read
  pub reads_memory : {A : Type 0} {s : Step A E} {a : Stand} {u : ℕ} → MayLackMemory errors s → Reads s a a u u (Err errors.memory)
  reads_memory {u = u} h = no_reads (h.lacks u)

  pub lacks_says : {A : Type 0} {is : Result A E → Type 0} → MayLackMemory errors (says errors is)
  lacks_says = record { lacks = λ u. record { reads_nothing = refl; takes_nothing = refl; answer = inr refl } }

  pub lacks_read : {A : Type 0} {answer : ℕ → Came → Result A E} {name : Bytes} → MayLackMemory errors (one_read errors answer name)
  lacks_read = record { lacks = λ u. Lacked refl refl refl }

  pub lacks_then : {A B : Type 0} {s : Step A E} {f : A → Step B E} → MayLackMemory errors s → MayLackMemory errors (s >>= f)
  lacks_then h = record { lacks = λ u. Ended errors.memory (h.lacks u) refl }

  pub lacks_each : {N A : Type 0} {step : A → N → Step A E} → ((x : A) (n : N) → MayLackMemory errors (step x n)) → (x : A) (ns : List N) → MayLackMemory errors (each errors step x ns)
  lacks_each h x [] = lacks_says
  lacks_each h x (n ∷ ns) = lacks_then (h x n)

-- ---- loops

module _ {A E : Type 0} {whole : Step A E} {start : Stand} {before : ℕ} where
  -- at the start
  pub leads_start : LeadsTo whole start before whole start before
  leads_start = record { leads = λ new now r h. h }

  -- past a step
  pub leads_on : {B : Type 0} {s : Step B E} {f : B → Step A E} {here there : Stand} {u m : ℕ} {x : B}
      → LeadsTo whole start before (s >>= f) here u → Reads s here there u m (Ok x) → LeadsTo whole start before (f x) there m
  leads_on led h = record { leads = λ new now r g. led.leads new now r (reads_then h g) }

  -- out by a step's refusal
  pub leads_out : {B : Type 0} {s : Step B E} {f : B → Step A E} {here there : Stand} {u m : ℕ} {e : E} {r : Result A E}
      → r ≡ Err e → LeadsTo whole start before (s >>= f) here u → Reads s here there u m (Err e) → Reads whole start there before m r
  leads_out {there = there} {m = m} {e = e} is led h = subst (Reads whole start there before m) (sym is) (led.leads there m (Err e) (reads_err h))

  -- at the end
  pub leads_end : {left : Step A E} {here there : Stand} {u m : ℕ} {r : Result A E}
      → LeadsTo whole start before left here u → Reads left here there u m r → Reads whole start there before m r
  leads_end {there = there} {m = m} {r = r} led h = led.leads there m r h

-- the item at hand stands first among those that are left
pub first_left : {X : Type 0} (xs : List X) (i : ℕ) (x : X) → i < length xs → x ≡ get_or xs i x → drop i xs ≡ x ∷ drop (i + 1) xs
first_left xs i x lt is = at_drop_more (λ ys. ys) xs i x lt ∙ ap (λ y. y ∷ drop (i + 1) xs) (sym is)

module _ {N A E : Type 0} (errors : Errors E) (step : A → N → Step A E) (ns : List N) (i : ℕ) {whole : Step A E} {start : Stand} {before : ℕ} {x : A} {here : Stand} {u : ℕ} where
  -- after the last item
  pub each_end : length ns ≤ i → LeadsTo whole start before (each errors step x (drop i ns)) here u → Reads whole start here before u (Ok x)
  each_end done led = leads_end led (rw (drop_all i ns done) (reads_ok refl))

  at_item : (n : N) → i < length ns → n ≡ get_or ns i n → LeadsTo whole start before (each errors step x (drop i ns)) here u
      → LeadsTo whole start before (step x n >>= λ y. each errors step y (drop (i + 1) ns)) here u
  at_item n lt is led = subst (λ l. LeadsTo whole start before (each errors step x l) here u) (first_left ns i n lt is) led

  -- past an item
  pub each_on : (n : N) → i < length ns → n ≡ get_or ns i n → {there : Stand} {m : ℕ} {y : A} → LeadsTo whole start before (each errors step x (drop i ns)) here u
      → Reads (step x n) here there u m (Ok y) → LeadsTo whole start before (each errors step y (drop (i + 1) ns)) there m
  each_on n lt is led h = leads_on (at_item n lt is led) h

  -- out by an item's refusal
  pub each_out : (n : N) → i < length ns → n ≡ get_or ns i n → {there : Stand} {m : ℕ} {e : E} {r : Result A E} → r ≡ Err e
      → LeadsTo whole start before (each errors step x (drop i ns)) here u → Reads (step x n) here there u m (Err e) → Reads whole start there before m r
  each_out n lt is same led h = leads_out same (at_item n lt is led) h

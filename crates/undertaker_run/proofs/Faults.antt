-- A read that failed ends each step by its own refusal: laws of steps one after another, of one read, of turned refusals
-- and of plans.
use Rattle.std.proofs.Common.{◌≡◌, ◌⊎◌, ◌∙◌, ℕ, inl, inr, refl, subst, ap, List, Result, Ok, Err}
use Rattle.std.specs.Result.{result_map_both}
use Rattle.ut_text.specs.Bytes.{Bytes}
use Rattle.ut_base.specs.Plans.{Plan, Gives, Refuses, Takes, Asks, plan}
use Rattle.ut_base.specs.Reading.{Came, Gave, Over, Gone, TooLong, Broke, Errors, Step, ◌>>=◌, Led, Ended, turned, says, one_read, Read, Lacked, SomeRead, IsBroke}
use Rattle.ut_base.proofs.ReadingLaws.{some_of_both}

-- where a read failed, the step comes to its refusal
pub record StopsAtFaults {A E : Type 0} (errors : Errors E) (s : Step A E) : Type 0 where
  pub stops : (u n : ℕ) (cs : List Came) (r : Result A E) → s u cs n r → SomeRead IsBroke cs → (name : Bytes) × (r ≡ Err (errors.fault name))

module _ {E : Type 0} {errors : Errors E} where
  pub stops_says : {A : Type 0} {is : Result A E → Type 0} → StopsAtFaults errors (says errors is)
  stops_says = record { stops = λ u n cs r h broke. absurd (subst (SomeRead IsBroke) h.reads_nothing broke) }

  pub stops_read : {A : Type 0} {answer : ℕ → Came → Result A E} {name : Bytes} → ((u : ℕ) (file : Bytes) → answer u (Broke file) ≡ Err (errors.fault file))
      → StopsAtFaults errors (one_read errors answer name)
  stops_read {A} {answer} {name} faults = record { stops = by }
    where
      came : (u : ℕ) (r : Result A E) (c : Came) → IsBroke c ⊎ ⊥ → r ≡ answer u c → (file : Bytes) × (r ≡ Err (errors.fault file))
      came u r (Gave n bytes) (inl h) is = absurd h
      came u r (Over n size) (inl h) is = absurd h
      came u r (Gone n) (inl h) is = absurd h
      came u r (TooLong n) (inl h) is = absurd h
      came u r (Broke n) (inl h) is = (n, is ∙ faults u n)
      came u r c (inr h) is = absurd h

      by : (u n : ℕ) (cs : List Came) (r : Result A E) → one_read errors answer name u cs n r → SomeRead IsBroke cs → (file : Bytes) × (r ≡ Err (errors.fault file))
      by u n cs r (Lacked empty at is) broke = absurd (subst (SomeRead IsBroke) empty broke)
      by u n cs r (Read c one may at is) broke = came u r c (subst (SomeRead IsBroke) one broke) is

  pub stops_then : {A B : Type 0} {s : Step A E} {f : A → Step B E} → StopsAtFaults errors s → ((x : A) → StopsAtFaults errors (f x)) → StopsAtFaults errors (s >>= f)
  stops_then {A} {B} {s} {f} first second = record { stops = by }
    where
      no_value : (x : A) → (name : Bytes) × (◌≡◌ {A = Result A E} (Ok x) (Err (errors.fault name))) → ⊥
      no_value x h = let w = h.1 in cc

      onward : (e : E) (r : Result B E) → r ≡ Err e → (name : Bytes) × (◌≡◌ {A = Result A E} (Err e) (Err (errors.fault name))) → (name : Bytes) × (r ≡ Err (errors.fault name))
      onward e r is h = let same : e ≡ errors.fault h.0 = (let w = h.1 in cc) in (h.0, is ∙ ap Err same)

      by : (u n : ℕ) (cs : List Came) (r : Result B E) → (s >>= f) u cs n r → SomeRead IsBroke cs → (name : Bytes) × (r ≡ Err (errors.fault name))
      by u n cs r (Led x m fs rs is h g) broke = led (some_of_both IsBroke fs rs (subst (SomeRead IsBroke) is broke))
        where
          led : SomeRead IsBroke fs ⊎ SomeRead IsBroke rs → (name : Bytes) × (r ≡ Err (errors.fault name))
          led (inl b) = absurd (no_value x (first.stops u m fs (Ok x) h b))
          led (inr b) = (second x).stops m n rs r g b
      by u n cs r (Ended e h is) broke = onward e r is (first.stops u n cs (Err e) h broke)

  -- a plan stops where a read failed
  pub stops_plan : {A : Type 0} (p : Plan A E) → StopsAtFaults errors (plan errors p)
  stops_plan (Gives x) = stops_says
  stops_plan (Refuses e) = stops_says
  stops_plan (Takes name next) = stops_then (stops_read (λ u file. refl)) (λ bytes. stops_plan (next bytes))
  stops_plan (Asks name next) = stops_then (stops_read (λ u file. refl)) (λ got. stops_plan (next got))

-- and so does a step whose refusals are turned
pub stops_turned : {A D E : Type 0} {from : Errors D} {to : Errors E} {g : D → E} {s : Step A D} → ((name : Bytes) → g (from.fault name) ≡ to.fault name)
    → StopsAtFaults from s → StopsAtFaults to (turned g s)
stops_turned {A} {D} {E} {from} {to} {g} {s} faults first = record { stops = λ u n cs r h broke. by r h.before h.answer (first.stops u n cs h.before h.follows broke) }
  where
    by : (r : Result A E) (q : Result A D) → r ≡ result_map_both (λ x. x) g q → (name : Bytes) × (q ≡ Err (from.fault name)) → (name : Bytes) × (r ≡ Err (to.fault name))
    by r q is h = (h.0, is ∙ ap (result_map_both (λ x. x) g) h.1 ∙ ap Err (faults h.0))

-- What the values of the variables tell of literals and clauses.
use Rattle.std.proofs.Common.{◌≡◌, ◌≢◌, ℕ, ◌+◌, ◌-◌, ◌<◌, ◌≤◌, Bool, true, false, not, List, ◌++◌, length, get_or, take, inl, inr, refl, sym, ap, ◌∙◌, subst, arith}
use Rattle.std.specs.Prelude.{Contains, ◌↔◌}
use Rattle.std.proofs.lemmas.List.{length-append, length-map, get_or_default}
use Rattle.std.proofs.lemmas.List.Elements.{Contains-get_or}
use Rattle.std.proofs.lemmas.Bool.{cases_lt, false≢true}
use Rattle.ut_logic.specs.declared.literals.Lit.{Lit}
use Rattle.ut_logic.specs.Clauses.{literal, IsWithin}
use Rattle.log_check.specs.declared.derivations.DerivationLine.{DerivationLine}
use Rattle.log_check.specs.Derivations.{IsNumbered, results}
use Rattle.sat_log.specs.declared.marks.Mark.{Mark}
use Rattle.sat_log.specs.declared.values.Value.{Value}
use Rattle.sat_log.specs.declared.values.Value.TheVariants.{Unset, True, False}
use Rattle.sat_log.specs.Moves.{State, IsSet, IsFalse, IsSetVar, IsFalseClause, known}
use Rattle.sat_log.specs.Inner.{Tells, AreValues, AreApart, AreTrail}
use Rattle.log_check.proofs.Deriving.{numbered_once}
use Rattle.sat_log.proofs.RunLemmas.{kept_run}
use Rattle.sat_log.proofs.Settled.{both_set}
use Rattle.sat_log.proofs.Places.{tells_set}
use Rattle.sat_log.proofs.Forcing.{AreFalseFrom}

-- the value of a variable says what the trail does
pub value_tells : (n : ℕ) (ms : List Mark) (values : List Value) (x : ℕ) (d : Value) → AreValues n ms values → 0 < x → x ≤ n → Tells ms x (get_or values (x - 1) d)
value_tells n ms values x d told low high =
    let e : x - 1 + 1 ≡ x = omega arith in
    subst (λ t. Tells ms t (get_or values (x - 1) d)) e (told.1 (x - 1) d (omega arith))

-- a variable that is true makes its negative literal false, and no other
pub true_tells : (ms : List Mark) (x : ℕ) (b : Bool) → AreApart ms → IsSet ms (literal x true) → (not b ≡ true) ↔ IsSet ms (literal x (not b))
true_tells ms x true a h = (λ e. absurd (false≢true e), λ s. absurd (both_set ms (literal x true) a h s))
true_tells ms x false a h = (λ e. h, λ s. refl)

-- a variable that is false makes its positive literal false, and no other
pub false_tells : (ms : List Mark) (x : ℕ) (b : Bool) → AreApart ms → IsSet ms (literal x false) → (b ≡ true) ↔ IsSet ms (literal x (not b))
false_tells ms x true a h = (λ e. h, λ s. refl)
false_tells ms x false a h = (λ e. absurd (false≢true e), λ s. absurd (both_set ms (literal x true) a s h))

-- a variable that isn't set makes none false
pub unset_tells : (ms : List Mark) (x : ℕ) (s : Bool) → ¬ IsSetVar ms x → (false ≡ true) ↔ IsSet ms (literal x s)
unset_tells ms x s u = (λ e. absurd (false≢true e), λ i. absurd (u (s, i)))

-- a variable whose value isn't True isn't true
pub not_true : (ms : List Mark) (x : ℕ) (v : Value) → AreApart ms → Tells ms x v → v ≢ True → (false ≡ true) ↔ IsSet ms (literal x true)
not_true ms x Unset a t n = unset_tells ms x true t
not_true ms x True a t n = absurd (n refl)
not_true ms x False a t n = (λ e. absurd (false≢true e), λ i. absurd (both_set ms (literal x true) a i t))

-- a place without a value is of a variable that isn't set
pub unset_place : (n : ℕ) (ms : List Mark) (values : List Value) (k : ℕ) (d : Value) → AreValues n ms values → k < length values → get_or values k d ≡ Unset → (x : ℕ) × (0 < x) × (x ≤ n) × (¬ IsSetVar ms x)
unset_place n ms values k d told h e = (k + 1, omega arith, omega (arith, told.0), subst (Tells ms (k + 1)) e (told.1 k d (omega (arith, told.0))))

-- where each place has a value each variable is set
pub full_values : (n : ℕ) (ms : List Mark) (values : List Value) (p : ℕ) → AreValues n ms values → length values ≤ p → ((k : ℕ) → k < p → ¬ (get_or values k Unset ≡ Unset)) → (x : ℕ) → 0 < x → x ≤ n → IsSetVar ms x
full_values n ms values p told h before x low high =
    tells_set ms x (get_or values (x - 1) Unset) (value_tells n ms values x Unset told low high) (before (x - 1) (omega (arith, told.0)))

-- one place more has a value
pub place_more : (values : List Value) (p k : ℕ) (d : Value) → p < length values → ((j : ℕ) → j < p → ¬ (get_or values j Unset ≡ Unset)) → ¬ (get_or values p d ≡ Unset) → k < p + 1 → ¬ (get_or values k Unset ≡ Unset)
place_more values p k d h before here lt = elim (cases_lt k p) [
  | inl q ↦ before k q
  | inr q ↦
      let at : k ≡ p = omega arith in
      λ e. here (sym (get_or_default values p Unset d h) ∙ ap (λ t. get_or values t Unset) (sym at) ∙ e)
]

module _ (n : ℕ) (clauses : List (List Lit)) (lines : List DerivationLine) (marks : List Mark) (reasons : List ℕ) (count low : ℕ) (values : List Value) (steps : ℕ) (a : AreTrail n clauses lines marks reasons count low values steps) where
  abbrev pub at : State
  at = record { lines = lines; marks = take count marks; steps = steps }

  -- a known clause speaks of the variables
  pub within_known : (number : ℕ) (c : List Lit) → IsNumbered (clauses ++ results lines) number c → IsWithin n c
  within_known number c num =
      let kept = kept_run n clauses a.reached.0 at a.within a.reached.1 in
      let among : Contains (known clauses at) c = (number - 1, omega (arith, num.0, num.1), num.2) in
      λ k d h. kept.within c among (get_or c k d) (Contains-get_or c k d h)

pub length_known : (clauses : List (List Lit)) (lines : List DerivationLine) → length (clauses ++ results lines) ≡ length clauses + length lines
length_known clauses lines = length-append clauses (results lines) ∙ ap (λ t. length clauses + t) (length-map lines (λ (x : DerivationLine). x.result))

-- one known clause more doesn't have the fact
pub none_more : (P : List Lit → Type 0) (ks : List (List Lit)) (i : ℕ) (c : List Lit) → ((j : ℕ) (e : List Lit) → j < i → IsNumbered ks (j + 1) e → ¬ P e) → IsNumbered ks (i + 1) c → ¬ P c → (j : ℕ) (e : List Lit) → j < i + 1 → IsNumbered ks (j + 1) e → ¬ P e
none_more P ks i c before here none j e lt num = elim (cases_lt j i) [
  | inl q ↦ before j e q num
  | inr q ↦
      let at : j ≡ i = omega arith in
      let same : c ≡ e = numbered_once ks (i + 1) c e here (subst (λ t. IsNumbered ks (t + 1) e) at num) in
      subst (λ t. ¬ P t) same none
]

-- no known clause has the fact
pub none_known : (P : List Lit → Type 0) (ks : List (List Lit)) (i : ℕ) → length ks ≤ i → ((j : ℕ) (e : List Lit) → j < i → IsNumbered ks (j + 1) e → ¬ P e) → (c : List Lit) → Contains ks c → ¬ P c
none_known P ks i h none c (k, lt, at) =
    let place : k + 1 - 1 ≡ k = omega arith in
    none k c (omega arith) (omega arith, omega arith, ap (λ t. get_or ks t c) place ∙ at)

-- a clause whose literals are all false is false
pub false_clause : (ms : List Mark) (c : List Lit) → AreFalseFrom ms c 0 ↔ IsFalseClause ms c
false_clause ms c = (
  λ all l i. subst (IsFalse ms) i.2 (all i.0 l (omega arith) i.1),
  λ f k d low high. f (get_or c k d) (Contains-get_or c k d high),
)

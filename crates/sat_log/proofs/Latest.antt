-- The first place where the trail can be cut, by the two literals that stand last in it.
use Rattle.std.proofs.Common.{◌≡◌, ◌≢◌, ℕ, suc, ◌+◌, ◌-◌, ◌<◌, ◌≤◌, Bool, true, false, not, List, [], ◌∷◌, ◌++◌, length, get_or, take, drop, ◌⊎◌, inl, inr, refl, sym, ap, ◌∙◌, subst, arith}
use Rattle.std.specs.Prelude.{All, Contains}
use Rattle.std.proofs.lemmas.List.{get_or_default, get_or-take, length-take-le, take-take, take-append-drop, take_at, get_or_at, length-append}
use Rattle.std.proofs.lemmas.List.Elements.{Contains-get_or}
use Rattle.std.proofs.lemmas.Bool.{cases_lt, cases_eq, cases_order}
use Rattle.ut_logic.specs.declared.literals.Lit.{Lit}
use Rattle.ut_logic.specs.Clauses.{literal, negated, IsOrdered}
use Rattle.log_check.proofs.Resolvents.{cases_literal}
use Rattle.sat_log.specs.declared.marks.Mark.{Mark}
use Rattle.sat_log.specs.declared.values.Value.{Value}
use Rattle.sat_log.specs.declared.values.Value.TheVariants.{Unset, True, False}
use Rattle.sat_log.specs.Inner.{Tells, AreApart, AreValues}
use Rattle.sat_log.specs.Moves.{IsSet, IsFalse, IsUnset, IsSetVar, Forces, IsForcing}
use Rattle.sat_log.specs.Placing.{place_in, AreAtPlaces, behind_under, behind_of, AreLatestTwo, IsFirstDecided}
use Rattle.sat_log.specs.Trails.{IsCut, IsFirstPlace}
use Rattle.sat_log.specs.Watches.{IsFineBefore, HasOneLeft}
use Rattle.sat_log.proofs.RunLemmas.{set_left, differ}
use Rattle.sat_log.proofs.Settled.{both_set, mark_of}
use Rattle.sat_log.proofs.Forcing.{set_at}
use Rattle.sat_log.proofs.Reading.{value_tells}

-- a set literal has its place
set_place : (ms : List Mark) (l : Lit) → IsSet ms l → (k : ℕ) × (k < length ms) × ((d : Mark) → (get_or ms k d).lit ≡ l)
set_place ms l s = by (mark_of ms l s)
  where
    by : (m : Mark) × Contains ms m × (m.lit ≡ l) → (k : ℕ) × (k < length ms) × ((d : Mark) → (get_or ms k d).lit ≡ l)
    by (m, (k, lt, here), e) = (k, lt, λ d. ap (λ (x : Mark). x.lit) (get_or_default ms k d m lt ∙ here) ∙ e)

front_set : (ms : List Mark) (k : ℕ) (l : Lit) → IsSet (take k ms) l → IsSet ms l
front_set ms k l s = subst (λ t. IsSet t l) (take-append-drop k ms) (set_left (take k ms) (drop k ms) l s)

module _ (n : ℕ) (ms : List Mark) (at : List ℕ) (values : List Value) (told : AreValues n ms values) (placed : AreAtPlaces ms at) where
  abbrev behind : Lit → ℕ
  behind l = behind_of at values (length ms) l

  -- a literal of the variable is set before place k, or it is behind it
  told_place : (x : ℕ) (s t : Bool) → IsSet ms (literal x s) → (place_in at (literal x t) < length ms) × ((d : Mark) → (get_or ms (place_in at (literal x t)) d).lit ≡ literal x s)
  told_place x s t i = by (set_place ms (literal x s) i)
    where
      by : (k : ℕ) × (k < length ms) × ((d : Mark) → (get_or ms k d).lit ≡ literal x s) → (place_in at (literal x t) < length ms) × ((d : Mark) → (get_or ms (place_in at (literal x t)) d).lit ≡ literal x s)
      by (k, lt, here) =
          let d : Mark = record { lit = literal x s; decided = false } in
          let e : place_in at (literal x t) ≡ k = ap (place_in at) (sym (here d)) ∙ placed k d lt in
          (subst (λ u. u < length ms) (sym e) lt, subst (λ u. (d : Mark) → (get_or ms u d).lit ≡ literal x s) (sym e) here)

  -- where the variable's place is before k, it is set there
  set_from : (x : ℕ) (s t : Bool) (k : ℕ) → IsSet ms (literal x s) → k ≤ length ms → place_in at (literal x t) < k → IsSetVar (take k ms) x
  set_from x s t k i h lt =
      let p = told_place x s t i in
      let d : Mark = record { lit = literal x s; decided = false } in
      let len : length (take k ms) ≡ k = length-take-le k ms h in
      (s, set_at (take k ms) (place_in at (literal x t)) d (literal x s) (omega arith) (ap (λ (m : Mark). m.lit) (get_or-take k ms (place_in at (literal x t)) d lt) ∙ p.1 d))

  from_set : (x : ℕ) (t : Bool) (k : ℕ) → k ≤ length ms → IsSetVar (take k ms) x → place_in at (literal x t) < k
  from_set x t k h (s, i) = by (set_place (take k ms) (literal x s) i)
    where
      by : (j : ℕ) × (j < length (take k ms)) × ((d : Mark) → (get_or (take k ms) j d).lit ≡ literal x s) → place_in at (literal x t) < k
      by (j, lt, here) =
          let d : Mark = record { lit = literal x s; decided = false } in
          let low : j < k = omega (arith, length-take-le k ms h) in
          let e : place_in at (literal x t) ≡ j = ap (place_in at) (sym (here d)) ∙ ap (λ (m : Mark). place_in at m.lit) (get_or-take k ms j d low) ∙ placed j d (omega arith) in
          omega arith

  by_value : (x : ℕ) (t : Bool) (v : Value) (k : ℕ) → Tells ms x v → k ≤ length ms → (IsSetVar (take k ms) x → behind_under v (length ms) (place_in at (literal x t)) ≤ k) × (behind_under v (length ms) (place_in at (literal x t)) ≤ k → IsSetVar (take k ms) x)
  by_value x t Unset k tell h = ((λ s. absurd (tell (s.0, front_set ms k (literal x s.0) s.1))), λ low. absurd (omega arith))
  by_value x t True k tell h = ((λ s. omega (arith, from_set x t k h s)), λ low. set_from x true t k tell h (omega arith))
  by_value x t False k tell h = ((λ s. omega (arith, from_set x t k h s)), λ low. set_from x false t k tell h (omega arith))

  -- the variable is set before place k exactly where it is not behind it
  pub set_iff : (l : Lit) (k : ℕ) → 0 < l.var → l.var ≤ n → k ≤ length ms → (IsSetVar (take k ms) l.var → behind l ≤ k) × (behind l ≤ k → IsSetVar (take k ms) l.var)
  set_iff l k low high h = by_value l.var l.positive (get_or values (l.var - 1) Unset) k (value_tells n ms values l.var Unset told low high) h

  false_var : (k : ℕ) (l : Lit) → IsFalse (take k ms) l → IsSetVar (take k ms) l.var
  false_var k l f = (not l.positive, f)

  sign_cases : (p s : Bool) → (s ≡ p) ⊎ (s ≡ not p)
  sign_cases true true = inl refl
  sign_cases true false = inr refl
  sign_cases false true = inr refl
  sign_cases false false = inl refl

  module _ (c : List Lit) (apart : AreApart ms) (ordered : IsOrdered c) (within : All (λ (l : Lit). (0 < l.var) × (l.var ≤ n)) c) (first second bound : ℕ) (two : AreLatestTwo at values (length ms) c first second bound) where
    abbrev zero_lit : Lit
    zero_lit = literal 0 true

    abbrev one_lit : Lit
    one_lit = get_or c first zero_lit

    abbrev two_lit : Lit
    two_lit = get_or c second zero_lit

    -- literals at two places of the clause differ
    apart_lits : (i j : ℕ) → i < length c → j < length c → i ≢ j → get_or c i zero_lit ≢ get_or c j zero_lit
    apart_lits i j hi hj n e = elim (cases_order i j) [
      | inl f ↦ n f
      | inr q ↦
          let var : (get_or c i zero_lit).var ≡ (get_or c j zero_lit).var = ap (λ (l : Lit). l.var) e in
          elim q [
            | inl lt ↦ absurd (omega (arith, ordered i j zero_lit lt hj))
            | inr lt ↦ absurd (omega (arith, ordered j i zero_lit lt hi))
          ]
    ]

    -- a literal that is behind k is the one that is forced before k
    only_behind : (k j : ℕ) (l : Lit) → k ≤ length ms → j < length c → Forces (take k ms) c l → k < behind (get_or c j zero_lit) → get_or c j zero_lit ≡ l
    only_behind k j l h hj f high = elim (cases_literal (get_or c j zero_lit) l) [
      | inl e ↦ e
      | inr d ↦
          let w = within j zero_lit hj in
          let s = (set_iff (get_or c j zero_lit) k w.0 w.1 h).0 (false_var k (get_or c j zero_lit) (f.others (get_or c j zero_lit) (Contains-get_or c j zero_lit hj) d)) in
          absurd (omega (arith, s))
    ]

    -- no cut before the second one
    pub no_cut_before : (k : ℕ) → IsCut ms c k → bound ≤ k
    no_cut_before k (lt, dec, (l, f)) = elim (cases_lt k bound) [
      | inr high ↦ high
      | inl low ↦
          let pair = two.two (omega arith) in
          let above : k < behind one_lit = omega (arith, two.highest zero_lit) in
          let above_too : k < behind two_lit = let e = pair.1 zero_lit in omega arith in
          let a = only_behind k first l (omega arith) two.first_in f above in
          let b = only_behind k second l (omega arith) two.second_in f above_too in
          absurd (apart_lits second first two.second_in two.first_in pair.0 (b ∙ sym a))
    ]

    module _ (k : ℕ) (some : IsCut ms c k) (cut : ℕ) (d : IsFirstDecided ms bound cut) where
      k_low : k ≤ length ms
      k_low = omega (arith, some.0)

      cut_before : cut ≤ k
      cut_before = elim (cases_lt k cut) [
        | inr high ↦ high
        | inl low ↦
            let m : Mark = record { lit = literal 0 true; decided = false } in
            absurd (differ (sym (some.1 m) ∙ d.first k m (no_cut_before k some) low))
      ]

      -- the first of the two is what the cut forces
      forced_is : (l : Lit) → Forces (take k ms) c l → one_lit ≡ l
      forced_is l f = by f.inside
        where
          by : Contains c l → one_lit ≡ l
          by (j, hj, e) = elim (cases_eq j first) [
            | inl g ↦ ap (λ t. get_or c t zero_lit) (sym g) ∙ get_or_default c j zero_lit l hj ∙ e
            | inr n ↦
                let here : get_or c j zero_lit ≡ l = get_or_default c j zero_lit l hj ∙ e in
                let w = within j zero_lit hj in
                let upper : behind (get_or c j zero_lit) ≤ bound = two.upper j zero_lit hj n in
                let low : bound ≤ k = no_cut_before k some in
                let set : IsSetVar (take k ms) (get_or c j zero_lit).var = (set_iff (get_or c j zero_lit) k w.0 w.1 k_low).1 (omega arith) in
                absurd (unset_there l f (subst (λ (t : Lit). IsSetVar (take k ms) t.var) here set))
          ]
            where
              unset_there : (l : Lit) → Forces (take k ms) c l → ¬ IsSetVar (take k ms) l.var
              unset_there l f (s, i) = elim (sign_cases l.positive s) [
                | inl g ↦ f.unset.0 (subst (λ t. IsSet (take k ms) (literal l.var t)) g i)
                | inr g ↦ f.unset.1 (subst (λ t. IsSet (take k ms) (literal l.var t)) g i)
              ]

      one_behind : k < behind one_lit
      one_behind = by some.2
        where
          by : IsForcing (take k ms) c → k < behind one_lit
          by (l, f) = elim (cases_lt k (behind one_lit)) [
            | inl q ↦ q
            | inr q ↦
                let w = within first zero_lit two.first_in in
                let set : IsSetVar (take k ms) one_lit.var = (set_iff one_lit k w.0 w.1 k_low).1 q in
                absurd (var_unset (subst (λ (t : Lit). IsUnset (take k ms) t) (sym (forced_is l f)) f.unset) set)
          ]
            where
              var_unset : IsUnset (take k ms) one_lit → ¬ IsSetVar (take k ms) one_lit.var
              var_unset u (s, i) = elim (sign_cases one_lit.positive s) [
                | inl g ↦ u.0 (subst (λ t. IsSet (take k ms) (literal one_lit.var t)) g i)
                | inr g ↦ u.1 (subst (λ t. IsSet (take k ms) (literal one_lit.var t)) g i)
              ]

      -- before a place that isn't behind it a literal's variable is unset
      unset_at : (j i : ℕ) → i < length c → j ≤ length ms → j < behind (get_or c i zero_lit) → IsUnset (take j ms) (get_or c i zero_lit)
      unset_at j i hi hj lt =
          let w = within i zero_lit hi in
          let l : Lit = get_or c i zero_lit in
          let none : ¬ IsSetVar (take j ms) l.var = λ s. absurd (omega (arith, (set_iff l j w.0 w.1 hj).0 s)) in
          ((λ s. none (l.positive, s)), (λ s. none (not l.positive, s)))

      one_unset : IsUnset (take cut ms) one_lit
      one_unset = unset_at cut first two.first_in (omega (arith, d.high)) (omega (arith, one_behind, cut_before))

      others_false : (m : Lit) → Contains c m → m ≢ one_lit → IsFalse (take cut ms) m
      others_false m (j, hj, e) ne = by some.2
        where
          by : IsForcing (take k ms) c → IsFalse (take cut ms) m
          by (l, f) =
              let here : get_or c j zero_lit ≡ m = get_or_default c j zero_lit m hj ∙ e in
              let n : j ≢ first = λ g. ne (sym here ∙ ap (λ t. get_or c t zero_lit) g) in
              let w = within j zero_lit hj in
              let upper : behind (get_or c j zero_lit) ≤ bound = two.upper j zero_lit hj n in
              let set : IsSetVar (take cut ms) (get_or c j zero_lit).var = (set_iff (get_or c j zero_lit) cut w.0 w.1 (omega (arith, d.high))).1 (omega (arith, d.low)) in
              let at_k : IsFalse (take k ms) m = f.others m (j, hj, e) (λ g. ne (g ∙ sym (forced_is l f))) in
              signed (subst (λ (t : Lit). IsSetVar (take cut ms) t.var) here set) at_k
            where
              signed : IsSetVar (take cut ms) m.var → IsFalse (take k ms) m → IsFalse (take cut ms) m
              signed (s, i) f = elim (sign_cases m.positive s) [
                | inl g ↦ absurd (both_set ms m apart (front_set ms cut m (subst (λ t. IsSet (take cut ms) (literal m.var t)) g i)) (front_set ms k (negated m) f))
                | inr g ↦ subst (λ t. IsSet (take cut ms) (literal m.var t)) g i
              ]

      pub first_place : IsFirstPlace ms c cut
      first_place = (
        (d.high, d.decided, (one_lit, record { inside = Contains-get_or c first zero_lit two.first_in; unset = one_unset; others = others_false })),
        (λ j low is.
            let m : Mark = record { lit = literal 0 true; decided = false } in
            differ (sym (is.1 m) ∙ d.first j m (no_cut_before j is) low)),
      )

      pub one_left : HasOneLeft (take cut ms) c one_lit two_lit
      one_left = (one_lit, inl refl, Contains-get_or c first zero_lit two.first_in, one_unset.1, others_false)

      pub fine_before : IsFineBefore (take cut ms) c one_lit two_lit
      fine_before before x gone e dec =
          let len : length (take cut ms) ≡ cut = length-take-le cut ms (omega (arith, d.high)) in
          let j : ℕ = length before in
          let j_low : j < cut = omega (arith, ap length e, length-append before (x ∷ gone)) in
          let m : Mark = record { lit = literal 0 true; decided = false } in
          let there : get_or ms j m ≡ x = sym (get_or-take cut ms j m j_low) ∙ ap (λ t. get_or t j m) e ∙ get_or_at before x gone m j refl in
          let below : j < bound = elim (cases_lt j bound) [
            | inl q ↦ q
            | inr q ↦ absurd (differ (sym (ap (λ (t : Mark). t.decided) there ∙ dec) ∙ d.first j m q j_low))
          ] in
          let pair = two.two (omega arith) in
          let same : take j ms ≡ before = sym (take-take-eq j cut j_low) ∙ ap (take j) e ∙ take_at before (x ∷ gone) j refl in
          let u : IsUnset (take j ms) one_lit = unset_at j first two.first_in (omega (arith, d.high)) (omega (arith, two.highest zero_lit)) in
          let v : IsUnset (take j ms) two_lit = unset_at j second two.second_in (omega (arith, d.high)) (let q = pair.1 zero_lit in omega arith) in (
            Contains-get_or c first zero_lit two.first_in,
            Contains-get_or c second zero_lit two.second_in,
            inr (inr (apart_lits first second two.first_in two.second_in (λ g. pair.0 (sym g)), subst (λ t. ¬ IsFalse t one_lit) same u.1, subst (λ t. ¬ IsFalse t two_lit) same v.1)),
          )
        where
          take-take-eq : (j k : ℕ) → j < k → take j (take k ms) ≡ take j ms
          take-take-eq j k h = take-take j k ms (omega arith)

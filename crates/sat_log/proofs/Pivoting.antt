-- Resolving the latest literal away, until the clause ends the search or the trail can be cut for it.
use Rattle.std.proofs.Common.{◌≡◌, ◌≢◌, ℕ, ◌+◌, ◌-◌, ◌<◌, ◌≤◌, true, false, List, [], ◌∷◌, ◌++◌, length, get_or, take, drop, ◌⊎◌, inl, inr, refl, sym, ap, ◌∙◌, subst, arith}
use Rattle.std.specs.Prelude.{All, Contains}
use Rattle.std.proofs.lemmas.Bool.{cases_eq}
use Rattle.std.proofs.lemmas.List.Elements.{All-take, Contains-get_or}
use Rattle.std.proofs.lemmas.List.{get_or_default, get_or-take, take-take, length-take-le, take-append-drop}
use Rattle.ut_logic.specs.declared.literals.Lit.{Lit}
use Rattle.ut_logic.specs.Clauses.{negated}
use Rattle.log_check.specs.declared.derivations.PivotOf.{PivotOf}
use Rattle.log_check.specs.Derivations.{IsNumbered}
use Rattle.log_check.specs.Resolution.{IsResolvent, HasNoResolvent}
use Rattle.log_check.proofs.Resolvents.{contains_nothing}
use Rattle.sat_log.specs.declared.marks.Mark.{Mark}
use Rattle.sat_log.specs.Moves.{IsSet, IsFalse, IsUnset, IsFalseClause, Forces, IsForcing}
use Rattle.sat_log.specs.Trails.{IsCut}
use Rattle.sat_log.specs.Inner.{AreApart, AreReasons, IsSettled, IsBackAt, EndsOrCuts}
use Rattle.sat_log.specs.Placing.{place_in, AreAtPlaces, IsLatestPlace, IsAloneFrom, IsPivot}
use Rattle.sat_log.proofs.RunLemmas.{apart_front, set_left, same_or_turned}
use Rattle.sat_log.proofs.Settled.{both_set}
use Rattle.sat_log.proofs.Back.{split_at, apart_later, double, can_resolve, resolved, false_before}
use Rattle.sat_log.proofs.Explaining.{place_of, false_at}

-- the clause that is left is empty, or the trail can be cut for it
pub explained_end : (known : List (List Lit)) (ms : List Mark) (first r : List Lit) (i : ℕ) (pairs : List PivotOf) → IsSettled known ms → IsBackAt known ms first i r pairs → (r ≡ []) ⊎ ((k : ℕ) × IsCut ms r k) → EndsOrCuts ms r
explained_end known ms first r i pairs s b (inr cut) = inr cut
explained_end known ms first r i pairs s b (inl e) = inl (
  λ k d h. elim (same_or_turned (get_or ms k d).decided false) [
    | inl forced ↦ forced
    | inr decided ↦
        let split = sym (split_at ms k d h) in
        let u = b.unset (take k ms) (get_or ms k d) (drop (k + 1) ms) split decided (s (take k ms) (get_or ms k d) (drop (k + 1) ms) split decided) in
        absurd (contains_nothing u.0 (subst (λ t. Contains t u.0) e u.1))
  ],
  e,
)

-- the literal to resolve away

module _ (ms : List Mark) (at : List ℕ) (lits : List Lit) (apart : AreApart ms) (placed : AreAtPlaces ms at) (all_false : IsFalseClause ms lits) where
  some_mark : Lit → Mark
  some_mark l = record { lit = l; decided = false }

  -- a literal of the clause stands at the place that is told
  told : (l : Lit) → Contains lits l → (place_in at l < length ms) × ((d : Mark) → (get_or ms (place_in at l) d).lit ≡ negated l)
  told l i = by (place_of ms l (all_false l i))
    where
      by : (k : ℕ) × (k < length ms) × ((d : Mark) → (get_or ms k d).lit ≡ negated l) → (place_in at l < length ms) × ((d : Mark) → (get_or ms (place_in at l) d).lit ≡ negated l)
      by (k, lt, here) =
          let d : Mark = record { lit = l; decided = false } in
          let e : place_in at l ≡ k = ap (place_in at) (sym (here d)) ∙ placed k d lt in
          (subst (λ t. t < length ms) (sym e) lt, subst (λ t. (d : Mark) → (get_or ms t d).lit ≡ negated l) (sym e) here)

  earlier : (l : Lit) (k : ℕ) → Contains lits l → k ≤ length ms → place_in at l < k → IsFalse (take k ms) l
  earlier l k i h lt = let d : Mark = record { lit = l; decided = false } in false_at ms (place_in at l) k l d lt h ((told l i).1 d)

  -- a literal isn't set before its place
  not_earlier : (l : Lit) (k : ℕ) → Contains lits l → k ≤ place_in at l → IsUnset (take k ms) l
  not_earlier l k i low =
      let d : Mark = record { lit = l; decided = false } in
      let high : place_in at l < length ms = (told l i).0 in (
        (λ s. both_set ms l apart (subst (λ t. IsSet t l) (take-append-drop k ms) (set_left (take k ms) (drop k ms) l s)) (all_false l i)),
        (λ f. apart_later ms k (place_in at l) d apart low high (subst (IsSet (take k ms)) (sym ((told l i).1 d)) f)),
      )

  -- literals at one place are the same
  one_place : (l k : Lit) → Contains lits l → Contains lits k → place_in at l ≡ place_in at k → l ≡ k
  one_place l k i j e =
      let d : Mark = record { lit = l; decided = false } in
      let same : negated l ≡ negated k = sym ((told l i).1 d) ∙ ap (λ t. (get_or ms t d).lit) e ∙ (told k j).1 d in
      sym (double l) ∙ ap negated same ∙ double k

  forced_from : (from : ℕ) (l : Lit) → from ≤ length ms → Contains lits l → from ≤ place_in at l → ((k : Lit) → Contains lits k → k ≢ l → place_in at k < from) → Forces (take from ms) lits l
  forced_from from l h i high below = record {
    inside = i;
    unset = not_earlier l from i high;
    others = λ k j n. earlier k from j h (below k j n);
  }

  alone_in : (from : ℕ) (l : Lit) → Contains lits l → from ≤ place_in at l → from < length ms
  alone_in from l i high = let inside : place_in at l < length ms = (told l i).0 in omega arith

  pub cut_alone : (from : ℕ) → ((d : Mark) → from < length ms → (get_or ms from d).decided ≡ true) → IsAloneFrom lits at from → (k : ℕ) × IsCut ms lits k
  cut_alone from decided (l, i, high, below) =
      let here : from < length ms = alone_in from l i high in
      let near : from ≤ length ms = omega arith in
      let forces : Forces (take from ms) lits l = forced_from from l near i high below in
      (from, (here, (λ d. decided d here), (l, forces)))

  module _ (place : ℕ) (last : IsLatestPlace lits at place) (some : lits ≢ []) where
    top : (l : Lit) × Contains lits l × (place_in at l ≡ place)
    top = elim last.reached [ inl e ↦ absurd (some e) | inr q ↦ q ]

    pub place_low : place < length ms
    place_low = by top
      where
        by : (l : Lit) × Contains lits l × (place_in at l ≡ place) → place < length ms
        by (l, i, e) = subst (λ t. t < length ms) e (told l i).0

    pub cut_decided : ((d : Mark) → (get_or ms place d).decided ≡ true) → (k : ℕ) × IsCut ms lits k
    cut_decided decided = by top
      where
        below : (l : Lit) → Contains lits l → place_in at l ≡ place → (k : Lit) → Contains lits k → k ≢ l → place_in at k < place
        below l i e k j n =
            let upper : place_in at k ≤ place = last.upper k j in
            let other : place_in at k ≢ place = λ f. n (one_place k l j i (f ∙ sym e)) in
            omega arith

        by : (l : Lit) × Contains lits l × (place_in at l ≡ place) → (k : ℕ) × IsCut ms lits k
        by (l, i, e) =
            let near : place ≤ length ms = omega (arith, place_low) in
            let high : place ≤ place_in at l = omega arith in
            let forces : Forces (take place ms) lits l = forced_from place l near i high (below l i e) in
            (place, (place_low, decided, (l, forces)))

    pub pivot_made : ((d : Mark) → (get_or ms place d).decided ≡ false) → IsPivot ms lits place
    pivot_made forced = by top
      where
        by : (l : Lit) × Contains lits l × (place_in at l ≡ place) → IsPivot ms lits place
        by (l, i, e) = record {
          within = place_low;
          forced = forced;
          inside = λ d.
              let lit : (get_or ms place d).lit ≡ negated l = ap (λ t. (get_or ms t d).lit) (sym e) ∙ (told l i).1 d in
              subst (Contains lits) (sym (ap negated lit ∙ double l)) i;
          others = λ k j. earlier k (place + 1) j (omega (arith, place_low)) (omega (arith, last.upper k j));
        }

-- the loop: the clause so far is false in the part of the trail that is left

module _ (known : List (List Lit)) (ms : List Mark) (reasons : List ℕ) (first : List Lit) (end : ℕ) (acc : List Lit) (pairs : List PivotOf) (place : ℕ) (d : Mark)
    (apart : AreApart ms) (rs : AreReasons known ms reasons) (high : end ≤ length ms) (b : IsBackAt known ms first end acc pairs) (p : IsPivot (take end ms) acc place) where
  pub place_end : place < end
  place_end = omega (arith, p.within, length-take-le end ms high)

  place_in_all : place < length ms
  place_in_all = omega (arith, place_end)

  mark_same : get_or (take end ms) place d ≡ get_or ms place d
  mark_same = get_or-take end ms place d place_end

  pub pivot_forced : (get_or ms place d).decided ≡ false
  pivot_forced = ap (λ (t : Mark). t.decided) (sym mark_same) ∙ p.forced d

  early : IsFalseClause (take (place + 1) ms) acc
  early l i = subst (λ t. IsFalse t l) (take-take (place + 1) end ms (omega (arith, place_end))) (p.others l i)

  back_here : IsBackAt known ms first (place + 1) acc pairs
  back_here = record {
    derived = b.derived;
    is_false = b.is_false;
    decided_only = λ j e low top i.
        let f = early (negated (get_or ms j e).lit) i in
        absurd (apart_later ms (place + 1) j e apart low top (subst (IsSet (take (place + 1) ms)) (double (get_or ms j e).lit) f));
    unset = b.unset;
  }

  pub pivot_resolves : (c : List Lit) × IsNumbered known (get_or reasons place 0) c × (¬ HasNoResolvent acc c (get_or ms place d).lit.var)
  pivot_resolves =
      let can = can_resolve known ms reasons first place d acc pairs place_in_all apart rs back_here (get_or reasons place 0) refl pivot_forced in
      (can.0, can.1, can.2 (subst (λ (t : Mark). Contains acc (negated t.lit)) mark_same (p.inside d)))

  pub pivot_gone : (acc' c : List Lit) (pairs' : List PivotOf) (reason : ℕ) → reason ≡ get_or reasons place 0 → IsNumbered known reason c → IsResolvent acc c (get_or ms place d).lit.var acc' → pairs' ≡ pairs ++ (record { pivot = (get_or ms place d).lit.var; clause = reason }) ∷ [] → IsBackAt known ms first place acc' pairs' × IsFalseClause (take place ms) acc'
  pivot_gone acc' c pairs' reason at num res e = (
    resolved known ms reasons first place d acc pairs place_in_all apart rs back_here acc' c pairs' reason at pivot_forced num res e,
    false_before known ms reasons first place d acc pairs place_in_all apart rs back_here acc' c reason at pivot_forced num res early,
  )

-- the clause of a number
pub numbered_clause : (known : List (List Lit)) (n : ℕ) (c : List Lit) → 0 < n → n ≤ length known → c ≡ get_or known (n - 1) [] → IsNumbered known n c
numbered_clause known n c low high e = (low, high, get_or_default known (n - 1) c [] (omega arith) ∙ sym e)

-- a front of the trail

module _ (ms : List Mark) (end : ℕ) (high : end ≤ length ms) where
  pub apart_cut : AreApart ms → AreApart (take end ms)
  apart_cut a = apart_front (take end ms) (drop end ms) (subst AreApart (sym (take-append-drop end ms)) a)

  pub cut_longer : (lits : List Lit) (k : ℕ) → IsCut (take end ms) lits k → IsCut ms lits k
  cut_longer lits k (lt, decided, forcing) =
      let low : k < end = omega (arith, length-take-le end ms high) in (
        omega arith,
        (λ d. ap (λ (m : Mark). m.decided) (sym (get_or-take end ms k d low)) ∙ decided d),
        subst (λ t. IsForcing t lits) (take-take k end ms (omega arith)) forcing,
      )

  pub decided_cut : (decided from : ℕ) → (0 < decided → from ≡ decided - 1) → (decided ≡ 0 → from ≡ length ms) → ((d : Mark) → 0 < decided → (decided ≤ length ms) × ((get_or ms (decided - 1) d).decided ≡ true)) → (d : Mark) → from < length (take end ms) → (get_or (take end ms) from d).decided ≡ true
  decided_cut decided from some none is d lt =
      let low : from < end = omega (arith, length-take-le end ms high) in
      elim (cases_eq decided 0) [
        | inl e ↦ absurd (omega (arith, none e))
        | inr n ↦
            let e : from ≡ decided - 1 = some (omega arith) in
            ap (λ (m : Mark). m.decided) (get_or-take end ms from d low) ∙ ap (λ k. (get_or ms k d).decided) e ∙ (is d (omega arith)).1
      ]

-- the literals of a false clause are of the variables
pub false_ranges : (n : ℕ) (ms : List Mark) (lits : List Lit) → All (λ (m : Mark). (0 < m.lit.var) × (m.lit.var ≤ n)) ms → IsFalseClause ms lits → All (λ (l : Lit). (0 < l.var) × (l.var ≤ n)) lits
false_ranges n ms lits vars f k d h = by (place_of ms (get_or lits k d) (f (get_or lits k d) (Contains-get_or lits k d h)))
  where
    by : (j : ℕ) × (j < length ms) × ((e : Mark) → (get_or ms j e).lit ≡ negated (get_or lits k d)) → (0 < (get_or lits k d).var) × ((get_or lits k d).var ≤ n)
    by (j, lt, here) =
        let e : Mark = record { lit = get_or lits k d; decided = false } in
        let var : (get_or ms j e).lit.var ≡ (get_or lits k d).var = ap (λ (l : Lit). l.var) (here e) in
        subst (λ x. (0 < x) × (x ≤ n)) var (vars j e lt)

pub vars_cut : (n : ℕ) (ms : List Mark) (end : ℕ) → All (λ (m : Mark). (0 < m.lit.var) × (m.lit.var ≤ n)) ms → All (λ (m : Mark). (0 < m.lit.var) × (m.lit.var ≤ n)) (take end ms)
vars_cut n ms end vars = All-take (λ (m : Mark). (0 < m.lit.var) × (m.lit.var ≤ n)) end ms vars

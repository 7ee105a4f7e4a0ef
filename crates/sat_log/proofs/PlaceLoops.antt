-- Loops over the places of a clause's literals.
use Rattle.std.proofs.Common.{◌≡◌, ◌≢◌, ℕ, suc, ◌+◌, ◌-◌, ◌<◌, ◌≤◌, Bool, true, false, leb, List, [], ◌∷◌, length, get_or, take, ◌⊎◌, inl, inr, refl, sym, ap, ◌∙◌, subst, arith}
use Rattle.std.specs.Prelude.{Contains}
use Rattle.std.proofs.lemmas.List.{take_more, take_all, get_or_default, nil_from_length}
use Rattle.std.proofs.lemmas.List.Elements.{Contains-push_cases, Contains-append_left, Contains-push, Contains-get_or}
use Rattle.std.proofs.lemmas.Bool.{cases_lt, cases_eq, lt-leb, le-leb}
use Rattle.ut_logic.specs.declared.literals.Lit.{Lit}
use Rattle.log_check.proofs.Resolvents.{contains_nothing}
use Rattle.sat_log.specs.declared.cutting.LatestTwo.{LatestTwo}
use Rattle.sat_log.specs.declared.marks.Mark.{Mark}
use Rattle.sat_log.specs.declared.values.Value.{Value}
use Rattle.sat_log.specs.declared.values.Value.TheVariants.{Unset, True, False}
use Rattle.sat_log.specs.Placing.{place_in, behind_under, behind_of, IsLatest, AreLatest, IsLatestPlace, IsAloneFrom, AreLatestTwo, IsFirstDecided}
use Rattle.sat_log.proofs.RunLemmas.{differ}

-- the latest place of the first literals

abbrev pub LatestSoFar : List Lit → List ℕ → ℕ → ℕ → Type 0
LatestSoFar lits at i place =
    ((l : Lit) → Contains (take i lits) l → place_in at l ≤ place) × (((i ≡ 0) × (place ≡ 0)) ⊎ ((l : Lit) × Contains (take i lits) l × (place_in at l ≡ place)))

pub latest_none : (lits : List Lit) (at : List ℕ) → LatestSoFar lits at 0 0
latest_none lits at = (λ l j. absurd (contains_nothing l j), inl (refl, refl))

module _ (lits : List Lit) (at : List ℕ) (i place : ℕ) (d : Lit) (h : i < length lits) (so_far : LatestSoFar lits at i place) where
  here_in : Contains (take (i + 1) lits) (get_or lits i d)
  here_in = subst (λ t. Contains t (get_or lits i d)) (sym (take_more lits i d h)) (Contains-push (take i lits) (get_or lits i d))

  cases_in : (l : Lit) → Contains (take (i + 1) lits) l → Contains (take i lits) l ⊎ (get_or lits i d ≡ l)
  cases_in l j = Contains-push_cases (take i lits) (get_or lits i d) l (subst (λ t. Contains t l) (take_more lits i d h) j)

  pub latest_more : (place' : ℕ) → (place_in at (get_or lits i d) ≤ place → place' ≡ place) → (place < place_in at (get_or lits i d) → place' ≡ place_in at (get_or lits i d)) → LatestSoFar lits at (i + 1) place'
  latest_more place' stays moves = elim (cases_lt place (place_in at (get_or lits i d))) [
    | inl higher ↦
        let e : place' ≡ place_in at (get_or lits i d) = moves higher in (
          (λ l j. elim (cases_in l j) [
            | inl k ↦ omega (arith, so_far.0 l k)
            | inr f ↦ subst (λ t. place_in at t ≤ place') f (omega arith)
          ]),
          inr (get_or lits i d, here_in, sym e),
        )
    | inr lower ↦
        let e : place' ≡ place = stays lower in (
          (λ l j. elim (cases_in l j) [
            | inl k ↦ omega (arith, so_far.0 l k)
            | inr f ↦ subst (λ t. place_in at t ≤ place') f (omega arith)
          ]),
          elim so_far.1 [
            | inl none ↦ inr (get_or lits i d, here_in, omega (arith, none.1))
            | inr some ↦ inr (some.0, subst (λ t. Contains t some.0) (sym (take_more lits i d h)) (Contains-append_left (take i lits) (get_or lits i d ∷ []) some.0 some.1), some.2 ∙ sym e)
          ],
        )
  ]

pub latest_done : (lits : List Lit) (at : List ℕ) (i place : ℕ) → length lits ≤ i → LatestSoFar lits at i place → IsLatestPlace lits at place
latest_done lits at i place h so_far =
    let whole : take i lits ≡ lits = take_all i lits h in
    record {
      upper = λ l j. so_far.0 l (subst (λ t. Contains t l) (sym whole) j);
      reached = elim so_far.1 [
        | inl none ↦ inl (nil_from_length lits (omega (arith, none.0)))
        | inr some ↦ inr (some.0, subst (λ t. Contains t some.0) whole some.1, some.2)
      ];
    }

-- how many of the first literals stand from a place on, as far as one

abbrev pub CountedSoFar : List Lit → List ℕ → ℕ → ℕ → ℕ → Type 0
CountedSoFar lits at from i count =
    (count ≤ i) × (count ≡ 0 → (l : Lit) → Contains (take i lits) l → place_in at l < from) × (count ≡ 1 → IsAloneFrom (take i lits) at from)

pub counted_none : (lits : List Lit) (at : List ℕ) (from : ℕ) → CountedSoFar lits at from 0 0
counted_none lits at from = (omega arith, (λ e l j. absurd (contains_nothing l j)), (λ e. absurd (omega arith)))

module _ (lits : List Lit) (at : List ℕ) (from i count : ℕ) (d : Lit) (h : i < length lits) (so_far : CountedSoFar lits at from i count) where
  abbrev one : Lit
  one = get_or lits i d

  one_in : Contains (take (i + 1) lits) one
  one_in = subst (λ t. Contains t one) (sym (take_more lits i d h)) (Contains-push (take i lits) one)

  one_or : (l : Lit) → Contains (take (i + 1) lits) l → Contains (take i lits) l ⊎ (one ≡ l)
  one_or l j = Contains-push_cases (take i lits) one l (subst (λ t. Contains t l) (take_more lits i d h) j)

  pub counted_more : (count' : ℕ) → from ≤ place_in at one → count' ≡ count + 1 → CountedSoFar lits at from (i + 1) count'
  counted_more count' high e = (
    omega (arith, so_far.0),
    (λ z. absurd (omega arith)),
    (λ z. (
      one,
      one_in,
      high,
      λ k j n. elim (one_or k j) [
        | inl q ↦ so_far.1 (omega arith) k q
        | inr f ↦ absurd (n (sym f))
      ],
    )),
  )

  pub counted_same : (count' : ℕ) → place_in at one < from → count' ≡ count → CountedSoFar lits at from (i + 1) count'
  counted_same count' low e = (
    omega (arith, so_far.0),
    (λ z l j. elim (one_or l j) [
      | inl q ↦ so_far.1 (omega arith) l q
      | inr f ↦ subst (λ t. place_in at t < from) f low
    ]),
    (λ z. alone (so_far.2 (omega arith))),
  )
    where
      alone : IsAloneFrom (take i lits) at from → IsAloneFrom (take (i + 1) lits) at from
      alone (l, j, high, others) = (
        l,
        subst (λ t. Contains t l) (sym (take_more lits i d h)) (Contains-append_left (take i lits) (one ∷ []) l j),
        high,
        λ k q n. elim (one_or k q) [
          | inl r ↦ others k r n
          | inr f ↦ subst (λ t. place_in at t < from) f low
        ],
      )

pub counted_step : (lits : List Lit) (at : List ℕ) (from i count : ℕ) (d : Lit) → i < length lits → CountedSoFar lits at from i count → (more : Bool) (count' : ℕ) → more ≡ leb from (place_in at (get_or lits i d)) → (more ≡ true → count' ≡ count + 1) → (more ≡ false → count' ≡ count) → CountedSoFar lits at from (i + 1) count'
counted_step lits at from i count d h so_far more count' is adds stays = elim (cases_lt (place_in at (get_or lits i d)) from) [
  | inl low ↦ counted_same lits at from i count d h so_far count' low (stays (is ∙ lt-leb from (place_in at (get_or lits i d)) low))
  | inr high ↦ counted_more lits at from i count d h so_far count' high (adds (is ∙ le-leb from (place_in at (get_or lits i d)) high))
]

pub counted_done : (lits : List Lit) (at : List ℕ) (from i count : ℕ) → length lits ≤ i → CountedSoFar lits at from i count → count ≡ 1 → IsAloneFrom lits at from
counted_done lits at from i count h so_far e = subst (λ t. IsAloneFrom t at from) (take_all i lits h) (so_far.2 e)

-- the two latest of the first literals

pub behind_some : (at : List ℕ) (values : List Value) (set : ℕ) (l : Lit) → 0 < behind_of at values set l
behind_some at values set l = by (get_or values (l.var - 1) Unset)
  where
    by : (v : Value) → 0 < behind_under v set (place_in at l)
    by Unset = omega arith
    by True = omega arith
    by False = omega arith

pub record TwoSoFar (at : List ℕ) (values : List Value) (set : ℕ) (lits : List Lit) (i : ℕ) (found : LatestTwo) : Type 0 where
  pub first_in : found.first < i
  pub second_in : found.second < i
  pub last : (d : Lit) → found.last ≡ behind_of at values set (get_or lits found.first d)
  pub bound : found.bound ≤ found.last
  pub upper : (j : ℕ) (d : Lit) → j < i → j ≢ found.first → behind_of at values set (get_or lits j d) ≤ found.bound
  pub one : found.bound ≡ 0 → (found.second ≡ found.first) × (i ≡ 1)
  pub two : 0 < found.bound → (found.second ≢ found.first) × ((d : Lit) → behind_of at values set (get_or lits found.second d) ≡ found.bound)

module _ (at : List ℕ) (values : List Value) (set : ℕ) (lits : List Lit) where
  abbrev behind_at : ℕ → Lit → ℕ
  behind_at j d = behind_of at values set (get_or lits j d)

  pub two_first : (last : ℕ) (e : Lit) → 0 < length lits → last ≡ behind_at 0 e → TwoSoFar at values set lits 1 (record { first = 0; second = 0; bound = 0; last = last })
  two_first last e some is = record {
    first_in = omega arith;
    second_in = omega arith;
    last = λ d. is ∙ ap (behind_of at values set) (get_or_default lits 0 e d some);
    bound = omega arith;
    upper = λ j d h n. absurd (n (omega arith));
    one = λ z. (refl, refl);
    two = λ z. absurd (omega arith);
  }

  module _ (i : ℕ) (two two' : LatestTwo) (behind : ℕ) (e : Lit) (h : i < length lits) (is : behind ≡ behind_at i e) (t : TwoSoFar at values set lits i two) where
    here : (d : Lit) → behind_at i d ≡ behind
    here d = ap (behind_of at values set) (get_or_default lits i d e h) ∙ sym is

    some : 0 < behind
    some = subst (λ n. 0 < n) (sym is) (behind_some at values set (get_or lits i e))

    last_some : 0 < two.last
    last_some = subst (λ n. 0 < n) (sym (t.last e)) (behind_some at values set (get_or lits two.first e))

    pub two_more : (two.last < behind → (two'.first ≡ i) × (two'.second ≡ two.first) × (two'.bound ≡ two.last) × (two'.last ≡ behind)) → (behind ≤ two.last → two.bound < behind → (two'.first ≡ two.first) × (two'.second ≡ i) × (two'.bound ≡ behind) × (two'.last ≡ two.last)) → (behind ≤ two.last → behind ≤ two.bound → two' ≡ two) → TwoSoFar at values set lits (i + 1) two'
    two_more higher between below = elim (cases_lt two.last behind) [
      | inl high ↦
          let q = higher high in
          record {
            first_in = omega (arith, q.0);
            second_in = omega (arith, q.1, t.first_in);
            last = λ d. q.3 ∙ sym (here d) ∙ ap (λ k. behind_at k d) (sym q.0);
            bound = omega (arith, q.2, q.3);
            upper = λ j d lt n. elim (cases_eq j two.first) [
              | inl f ↦ let last = t.last d in let at_j : behind_at j d ≡ two.last = ap (λ k. behind_at k d) f ∙ sym last in omega (arith, q.2)
              | inr m ↦ let low : j < i = omega (arith, q.0) in omega (arith, q.2, t.bound, t.upper j d low m)
            ];
            one = λ z. absurd (omega (arith, q.2, last_some));
            two = λ z. ((λ f. absurd (omega (arith, q.0, q.1, t.first_in))), λ d. ap (λ k. behind_at k d) q.1 ∙ sym (t.last d) ∙ sym q.2);
          }
      | inr low ↦ elim (cases_lt two.bound behind) [
        | inl mid ↦
            let q = between low mid in
            record {
              first_in = omega (arith, q.0, t.first_in);
              second_in = omega (arith, q.1);
              last = λ d. q.3 ∙ t.last d ∙ ap (λ k. behind_at k d) (sym q.0);
              bound = omega (arith, q.2, q.3);
              upper = λ j d lt n. elim (cases_eq j i) [
                | inl f ↦ let at_j : behind_at j d ≡ behind = ap (λ k. behind_at k d) f ∙ here d in omega (arith, q.2)
                | inr m ↦ let before : j < i = omega arith in omega (arith, q.2, t.upper j d before (λ f. n (f ∙ sym q.0)))
              ];
              one = λ z. absurd (omega (arith, q.2));
              two = λ z. ((λ f. absurd (omega (arith, q.0, q.1, t.first_in))), λ d. ap (λ k. behind_at k d) q.1 ∙ here d ∙ sym q.2);
            }
        | inr under ↦ subst (TwoSoFar at values set lits (i + 1)) (sym (below low under)) (record {
          first_in = omega (arith, t.first_in);
          second_in = omega (arith, t.second_in);
          last = t.last;
          bound = t.bound;
          upper = λ j d lt n. elim (cases_eq j i) [
            | inl f ↦ let at_j : behind_at j d ≡ behind = ap (λ k. behind_at k d) f ∙ here d in omega arith
            | inr m ↦ t.upper j d (omega arith) n
          ];
          one = λ z. absurd (omega (arith, some));
          two = t.two;
        })
      ]
    ]

  pub two_done : (i : ℕ) (two : LatestTwo) → i ≡ length lits → TwoSoFar at values set lits i two → AreLatestTwo at values set lits two.first two.second two.bound
  two_done i two e t = record {
    first_in = omega (arith, t.first_in);
    second_in = omega (arith, t.second_in);
    upper = λ j d h n. t.upper j d (omega arith) n;
    highest = λ d. omega (arith, t.bound, t.last d);
    one = λ z. let q = t.one z in (q.0, sym e ∙ q.1);
    two = t.two;
  }

-- back from decision to decision

module _ (ms : List Mark) (latest : List ℕ) (l : AreLatest ms latest) (bound : ℕ) where
  pub cut_start : (k : ℕ) → bound ≤ k → k < length ms → ((d : Mark) → (get_or ms k d).decided ≡ true) → (0 < get_or latest (length ms - 1) 0) × (bound ≤ get_or latest (length ms - 1) 0 - 1) × (get_or latest (length ms - 1) 0 - 1 < length ms) × ((d : Mark) → (get_or ms (get_or latest (length ms - 1) 0 - 1) d).decided ≡ true)
  cut_start k low high decided =
      let p : ℕ = get_or latest (length ms - 1) 0 in
      let is = l (length ms - 1) (omega arith) in
      let behind : k < p = elim (cases_lt k p) [
        | inl q ↦ q
        | inr q ↦ let d : Mark = record { lit = record { var = 0; positive = false }; decided = true } in absurd (differ (sym (decided d) ∙ is.forced k d q (omega arith)))
      ] in
      (omega arith, omega arith, omega (arith, is.within), λ d. is.decided d (omega arith))

  pub cut_found : (cut : ℕ) → bound < cut → cut < length ms → ((d : Mark) → (get_or ms cut d).decided ≡ true) → get_or latest (cut - 1) 0 ≤ bound → IsFirstDecided ms bound cut
  cut_found cut low high decided before = record {
    low = omega arith;
    high = high;
    decided = decided;
    first = λ j d a b. (l (cut - 1) (omega arith)).forced j d (omega arith) (omega arith);
  }

  pub cut_back : (cut : ℕ) → bound < cut → cut < length ms → bound < get_or latest (cut - 1) 0 → (bound ≤ get_or latest (cut - 1) 0 - 1) × (get_or latest (cut - 1) 0 - 1 < cut) × ((d : Mark) → (get_or ms (get_or latest (cut - 1) 0 - 1) d).decided ≡ true)
  cut_back cut low high before =
      let is = l (cut - 1) (omega arith) in
      (omega arith, omega (arith, is.within), λ d. is.decided d (omega arith))

  pub cut_at_bound : (cut : ℕ) → bound ≤ cut → cut ≤ bound → cut < length ms → ((d : Mark) → (get_or ms cut d).decided ≡ true) → IsFirstDecided ms bound cut
  cut_at_bound cut low high within decided = record {
    low = low;
    high = within;
    decided = decided;
    first = λ j d a b. absurd (omega arith);
  }

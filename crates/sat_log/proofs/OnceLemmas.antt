-- Lists in which no number stands twice, and places that wait.
use Rattle.std.proofs.Common.{◌≡◌, ◌≢◌, ℕ, suc, ◌+◌, ◌-◌, ◌<◌, ◌≤◌, Bool, true, false, eqb, List, [], ◌∷◌, ◌++◌, length, get_or, set, take, ◌⊎◌, inl, inr, refl, sym, ap, ◌∙◌, subst, arith}
use Rattle.std.specs.Prelude.{All, Contains, ◌↔◌}
use Rattle.std.specs.List.{AllByRecursion, IsDistinct, list_any}
use Rattle.std.proofs.lemmas.List.{length_push, length-take-le, length-set, take_more_set, take_more, get_or-set_same, get_or-set_other, take-append-le, get_or_append_left, get_or_at}
use Rattle.std.proofs.lemmas.List.Elements.{All-contains, All-push, Contains-append_left, Contains-append_right, Contains-append_cases, Contains-push, Contains-push_cases, Contains-get_or}
use Rattle.std.proofs.lemmas.Bool.{eqb-true, ne_eqb, or_cases, cases_eq, cases_lt, false≢true}
use Rattle.std.proofs.lemmas.Map.Steps.{length-le_from_distinct_below}
use Rattle.log_check.proofs.Resolvents.{contains_head, contains_tail, contains_cases, contains_nothing}
use Rattle.sat_log.specs.Waiting.{HasOnce, AreWaiting}

others : (x : ℕ) (xs : List ℕ) → ¬ Contains xs x → AllByRecursion (λ y. eqb x y ≡ false) xs
others x [] n = tt
others x (y ∷ ys) n = (ne_eqb x y (λ e. n (subst (Contains (y ∷ ys)) (sym e) (contains_head y ys))), others x ys (λ i. n (contains_tail y ys x i)))

distinct : (xs : List ℕ) → HasOnce xs → IsDistinct eqb xs
unfolding IsDistinct
distinct [] h = tt
distinct (x ∷ xs) h = (others x xs h.0, distinct xs h.1)

any_in : (q : ℕ) (xs : List ℕ) → list_any (eqb q) xs ≡ true → Contains xs q
any_in q [] e = absurd (false≢true e)
any_in q (x ∷ xs) e = elim (or_cases (eqb q x) (list_any (eqb q) xs) e) [
  | inl f ↦ subst (Contains (x ∷ xs)) (sym (eqb-true q x f)) (contains_head x xs)
  | inr f ↦ contains_tail x xs q (any_in q xs f)
]

-- different numbers below n are n at most
pub few_once : (xs : List ℕ) (n : ℕ) → HasOnce xs → ((q : ℕ) → Contains xs q → q < n) → length xs ≤ n
few_once xs n h below = length-le_from_distinct_below xs n (distinct xs h) (λ q e. below q (any_in q xs e))

pub once_push : (xs : List ℕ) (p : ℕ) → HasOnce xs → ¬ Contains xs p → HasOnce (xs ++ p ∷ [])
once_push [] p h n = (contains_nothing p, tt)
once_push (x ∷ xs) p h n = (
  (λ i. elim (Contains-push_cases xs p x i) [
    | inl q ↦ h.0 q
    | inr e ↦ n (subst (Contains (x ∷ xs)) (sym e) (contains_head x xs))
  ]),
  once_push xs p h.1 (λ i. n (contains_tail x xs p i)),
)

pub once_front : (xs : List ℕ) (p : ℕ) → HasOnce (xs ++ p ∷ []) → HasOnce xs × (¬ Contains xs p)
once_front [] p h = (tt, contains_nothing p)
once_front (x ∷ xs) p h =
    let rest = once_front xs p h.1 in (
      ((λ i. h.0 (Contains-append_left xs (p ∷ []) x i)), rest.0),
      (λ i. elim (contains_cases x xs p i) [
        | inl e ↦ h.0 (subst (Contains (xs ++ p ∷ [])) (sym e) (Contains-push xs p))
        | inr q ↦ rest.1 q
      ]),
    )

-- lists with the same elements have the same last one
pub same_last : (xs ys : List ℕ) (x y : ℕ) → xs ++ x ∷ [] ≡ ys ++ y ∷ [] → x ≡ y
same_last xs ys x y e =
    let len : length xs ≡ length ys = omega (arith, ap length e, length_push xs x, length_push ys y) in
    sym (get_or_at xs x [] 0 (length xs) refl) ∙ ap (λ t. get_or t (length xs) 0) e ∙ get_or_at ys y [] 0 (length xs) (sym len)

module _ (places : List ℕ) (listed : List Bool) (count : ℕ) (w : AreWaiting places listed count) where
  abbrev list : List ℕ
  list = take count places

  pub length_list : length list ≡ count
  length_list = length-take-le count places w.within

  pub room_left : (p : ℕ) → p < length listed → ¬ Contains list p → count < length places
  room_left p h n =
      let more : List ℕ = list ++ p ∷ [] in
      let few : length more ≤ length listed = few_once more (length listed) (once_push list p w.once n) (λ q i. elim (Contains-push_cases list p q i) [
        | inl j ↦ All-contains (λ place. place < length listed) list q w.below j
        | inr e ↦ subst (λ t. t < length listed) e h
      ]) in
      omega (arith, length_push list p, length_list, w.room)

  pub added : (p : ℕ) → p < length listed → ¬ Contains list p → AreWaiting (set places count p) (set listed p true) (count + 1) × (take (count + 1) (set places count p) ≡ list ++ p ∷ [])
  added p h n =
      let in_range : count < length places = room_left p h n in
      let same : take (count + 1) (set places count p) ≡ list ++ p ∷ [] = take_more_set places count p in_range in
      let flags_len : length (set listed p true) ≡ length listed = length-set listed p true in (
        record {
          room = omega (arith, w.room, flags_len, length-set places count p);
          within = omega (arith, length-set places count p);
          below = rw (same, flags_len) (All-push (λ place. place < length listed) list p w.below h);
          once = rw same (once_push list p w.once n);
          flags = λ k d lt. rw same (elim (cases_eq k p) [
            | inl e ↦ ((λ x. subst (Contains (list ++ p ∷ [])) (sym e) (Contains-push list p)), (λ i. ap (λ t. get_or (set listed p true) t d) e ∙ get_or-set_same listed p true d h))
            | inr ne ↦
                let f = w.flags k d (omega arith) in
                let stays : get_or (set listed p true) k d ≡ get_or listed k d = get_or-set_other listed p k true d ne in (
                  (λ x. Contains-append_left list (p ∷ []) k (f.0 (sym stays ∙ x))),
                  (λ i. stays ∙ elim (Contains-push_cases list p k i) [ inl j ↦ f.1 j | inr e ↦ absurd (ne (sym e)) ]),
                )
          ]);
        },
        same,
      )

  pub taken : (p : ℕ) → 0 < count → p ≡ get_or places (count - 1) p → AreWaiting places (set listed p false) (count - 1) × (list ≡ take (count - 1) places ++ p ∷ [])
  taken p some at =
      let shorter : List ℕ = take (count - 1) places in
      let e : count - 1 + 1 ≡ count = omega arith in
      let whole : list ≡ shorter ++ p ∷ [] = ap (λ t. take t places) (sym e) ∙ take_more places (count - 1) p (omega (arith, w.within)) ∙ ap (λ t. shorter ++ t ∷ []) (sym at) in
      let once = once_front shorter p (subst HasOnce whole w.once) in
      let len : length (set listed p false) ≡ length listed = length-set listed p false in
      let inside : Contains list p = subst (λ t. Contains t p) (sym whole) (Contains-push shorter p) in
      let low : p < length listed = All-contains (λ place. place < length listed) list p w.below inside in (
        record {
          room = omega (arith, w.room, len);
          within = omega (arith, w.within);
          below = rw len (λ k d lt. All-contains (λ place. place < length listed) list (get_or shorter k d) w.below (subst (λ t. Contains t (get_or shorter k d)) (sym whole) (Contains-append_left shorter (p ∷ []) (get_or shorter k d) (Contains-get_or shorter k d lt))));
          once = once.0;
          flags = λ k d lt. elim (cases_eq k p) [
            | inl same ↦ (
              (λ x. absurd (false≢true (sym (ap (λ t. get_or (set listed p false) t d) same ∙ get_or-set_same listed p false d low) ∙ x))),
              (λ i. absurd (once.1 (subst (Contains shorter) same i))),
            )
            | inr ne ↦
                let f = w.flags k d (omega arith) in
                let stays : get_or (set listed p false) k d ≡ get_or listed k d = get_or-set_other listed p k false d ne in (
                  (λ x. elim (Contains-push_cases shorter p k (subst (λ t. Contains t k) whole (f.0 (sym stays ∙ x)))) [ inl j ↦ j | inr g ↦ absurd (ne (sym g)) ]),
                  (λ i. stays ∙ f.1 (subst (λ t. Contains t k) (sym whole) (Contains-append_left shorter (p ∷ []) k i))),
                )
          ];
        },
        whole,
      )

  -- more room
  pub roomier_places : (p : ℕ) → AreWaiting (places ++ p ∷ []) listed count
  roomier_places p =
      let same : take count (places ++ p ∷ []) ≡ list = take-append-le count places (p ∷ []) w.within in
      record {
        room = omega (arith, w.room, length_push places p);
        within = omega (arith, w.within, length_push places p);
        below = rw same w.below;
        once = rw same w.once;
        flags = λ k d lt. rw same (w.flags k d lt);
      }

  pub roomier_both : (p : ℕ) → AreWaiting (places ++ p ∷ []) (listed ++ false ∷ []) count
  roomier_both p =
      let same : take count (places ++ p ∷ []) ≡ list = take-append-le count places (p ∷ []) w.within in
      let count_listed : length (listed ++ false ∷ []) ≡ length listed + 1 = length_push listed false in
      record {
        room = omega (arith, w.room, length_push places p);
        within = omega (arith, w.within, length_push places p);
        below = rw same (λ k d lt. let low : get_or list k d < length listed = w.below k d lt in omega arith);
        once = rw same w.once;
        flags = λ k d lt. rw same (elim (cases_lt k (length listed)) [
          | inl low ↦
              let f = w.flags k d low in
              let stays : get_or (listed ++ false ∷ []) k d ≡ get_or listed k d = get_or_append_left listed (false ∷ []) d k low in
              ((λ x. f.0 (sym stays ∙ x)), (λ i. stays ∙ f.1 i))
          | inr high ↦
              let at : length listed ≡ k = omega arith in
              let here : get_or (listed ++ false ∷ []) k d ≡ false = get_or_at listed false [] d k at in (
                (λ x. absurd (false≢true (sym here ∙ x))),
                (λ i. let low : k < length listed = All-contains (λ place. place < length listed) list k w.below i in absurd (omega arith)),
              )
        ]);
      }

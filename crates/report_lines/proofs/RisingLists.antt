-- Lists that rise strictly: two with the same members are one list; and lists of parts that rise.
use Rattle.std.proofs.Common.{◌≡◌, ℕ, zero, suc, ◌+◌, ◌<◌, ◌≤◌, Bool, true, false, cond, List, [], ◌∷◌, ◌++◌, length, get_or, refl, ap, sym, subst, ◌∙◌, ◌⊎◌, inl, inr, arith, map}
use Rattle.std.specs.declared.cmp.Ordering.{Ordering}
use Rattle.std.specs.declared.cmp.Ordering.TheVariants.{Less}
use Rattle.std.specs.List.{AllByRecursion, filter}
use Rattle.std.specs.List.Sorted.{IsStrictlySortedBy}
use Rattle.ut_report.specs.Groups.{each_from}

-- x is one of the list
abbrev pub In : {A : Type 0} → List A → A → Type 0
In [] x = ⊥
In (y ∷ ys) x = (y ≡ x) ⊎ In ys x

-- each element stands before all later ones
abbrev pub Rising : {A : Type 0} → (A → A → Type 0) → List A → Type 0
Rising R [] = Unit {0}
Rising R (x ∷ xs) = AllByRecursion (R x) xs × Rising R xs

-- ---- members

pub each_in : {A : Type 0} (P : A → Type 0) (xs : List A) (x : A) → AllByRecursion P xs → In xs x → P x
each_in P [] x h g = absurd g
each_in P (y ∷ ys) x h (inl e) = subst P e h.0
each_in P (y ∷ ys) x h (inr g) = each_in P ys x h.1 g

pub all_in : {A : Type 0} (P : A → Type 0) (xs : List A) → ((x : A) → In xs x → P x) → AllByRecursion P xs
all_in P [] h = tt
all_in P (x ∷ xs) h = (h x (inl refl), all_in P xs (λ y g. h y (inr g)))

pub in_front : {A : Type 0} (xs ys : List A) (x : A) → In xs x → In (xs ++ ys) x
in_front [] ys x h = absurd h
in_front (y ∷ xs) ys x (inl e) = inl e
in_front (y ∷ xs) ys x (inr h) = inr (in_front xs ys x h)

pub in_back : {A : Type 0} (xs ys : List A) (x : A) → In ys x → In (xs ++ ys) x
in_back [] ys x h = h
in_back (y ∷ xs) ys x h = inr (in_back xs ys x h)

pub in_either : {A : Type 0} (xs ys : List A) (x : A) → In (xs ++ ys) x → In xs x ⊎ In ys x
in_either [] ys x h = inr h
in_either (y ∷ xs) ys x (inl e) = inl (inl e)
in_either (y ∷ xs) ys x (inr h) = elim (in_either xs ys x h) [ inl g ↦ inl (inr g) | inr g ↦ inr g ]

pub in_map : {A B : Type 0} (f : A → B) (xs : List A) (x : A) → In xs x → In (map f xs) (f x)
in_map f [] x h = absurd h
in_map f (y ∷ ys) x (inl e) = inl (ap f e)
in_map f (y ∷ ys) x (inr h) = inr (in_map f ys x h)

pub map_in : {A B : Type 0} (f : A → B) (xs : List A) (y : B) → In (map f xs) y → (x : A) × In xs x × (f x ≡ y)
map_in f [] y h = absurd h
map_in f (x ∷ xs) y (inl e) = (x, inl refl, e)
map_in f (x ∷ xs) y (inr h) = let r = map_in f xs y h in (r.0, inr r.1, r.2)

module _ {A : Type 0} (p : A → Bool) where
  pub in_filter : (xs : List A) (x : A) → In (filter p xs) x → In xs x × (p x ≡ true)
  in_filter [] x h = absurd h
  in_filter (y ∷ ys) x h = by (p y) refl h (λ g. let r = in_filter ys x g in (inr r.0, r.1))
    where
      by : (b : Bool) → p y ≡ b → In (cond b (y ∷ filter p ys) (filter p ys)) x → (In (filter p ys) x → In (y ∷ ys) x × (p x ≡ true)) → In (y ∷ ys) x × (p x ≡ true)
      by true e (inl s) more = (inl s, ap p (sym s) ∙ e)
      by true e (inr g) more = more g
      by false e g more = more g

  pub filter_in : (xs : List A) (x : A) → In xs x → p x ≡ true → In (filter p xs) x
  filter_in [] x h e = absurd h
  filter_in (y ∷ ys) x (inl s) e = subst (λ b. In (cond b (y ∷ filter p ys) (filter p ys)) x) (sym (ap p s ∙ e)) (inl s)
  filter_in (y ∷ ys) x (inr h) e = by (p y) (filter_in ys x h e)
    where
      by : (b : Bool) → In (filter p ys) x → In (cond b (y ∷ filter p ys) (filter p ys)) x
      by true g = inr g
      by false g = g

-- ---- members of parts

-- an element past whose end nothing holds is one of the list
pub within : {A : Type 0} (P : A → Type 0) (d : A) → (P d → ⊥) → (xs : List A) (k : ℕ) → P (get_or xs k d) → k < length xs
within P d never [] k h = absurd (never h)
within P d never (x ∷ xs) zero h = omega arith
within P d never (x ∷ xs) (suc k) h = let r = within P d never xs k h in omega (arith, r)

module _ {A B : Type 0} (f : ℕ → A → List B) where
  pub in_part : (n : ℕ) (xs : List A) (x : B) → In (each_from f n xs) x → (k : ℕ) × (k < length xs) × ((d : A) → In (f (n + k) (get_or xs k d)) x)
  in_part n [] x h = absurd h
  in_part n (a ∷ xs) x h =
      let here : n ≡ n + 0 = omega arith in
      let more : In (each_from f (suc n) xs) x → (k : ℕ) × (k < length xs) × ((d : A) → In (f (suc n + k) (get_or xs k d)) x) = in_part (suc n) xs x in
      elim (in_either (f n a) (each_from f (suc n) xs) x h) [
        | inl g ↦ (0, omega arith, λ d. subst (λ m. In (f m a) x) here g)
        | inr g ↦ let r = more g in let next : suc n + r.0 ≡ n + suc r.0 = omega arith in
            (suc r.0, omega (arith, r.1), λ d. subst (λ m. In (f m (get_or xs r.0 d)) x) next (r.2 d))
      ]

  pub in_some : (n : ℕ) (xs : List A) (x : B) → In (each_from f n xs) x → (k : ℕ) × (a : A) × (n ≤ k) × In (f k a) x
  in_some n [] x h = absurd h
  in_some n (a ∷ xs) x h =
      let more : In (each_from f (suc n) xs) x → (k : ℕ) × (b : A) × (suc n ≤ k) × In (f k b) x = in_some (suc n) xs x in
      elim (in_either (f n a) (each_from f (suc n) xs) x h) [ inl g ↦ (n, a, omega arith, g) | inr g ↦ let r = more g in (r.0, r.1, omega (arith, r.2), r.3) ]

  pub at_part : (n : ℕ) (xs : List A) (k : ℕ) (d : A) (x : B) → k < length xs → In (f (n + k) (get_or xs k d)) x → In (each_from f n xs) x
  at_part n [] k d x l h = absurd (omega (arith, l))
  at_part n (a ∷ xs) zero d x l h = let here : n + 0 ≡ n = omega arith in in_front (f n a) (each_from f (suc n) xs) x (subst (λ m. In (f m a) x) here h)
  at_part n (a ∷ xs) (suc k) d x l h = let next : n + suc k ≡ suc n + k = omega arith in
      in_back (f n a) (each_from f (suc n) xs) x (at_part (suc n) xs k d x (omega (arith, l)) (subst (λ m. In (f m (get_or xs k d)) x) next h))

-- ---- one list

module _ {A : Type 0} (R : A → A → Type 0) where
  pub joined_rising : (xs ys : List A) → Rising R xs → Rising R ys → ((x y : A) → In xs x → In ys y → R x y) → Rising R (xs ++ ys)
  joined_rising [] ys a b c = b
  joined_rising (x ∷ xs) ys a b c = (
    all_in (R x) (xs ++ ys) (λ z h. elim (in_either xs ys z h) [ inl g ↦ each_in (R x) xs z a.0 g | inr g ↦ c x z (inl refl) g ]),
    joined_rising xs ys a.1 b (λ z y g h. c z y (inr g) h),
  )

  pub filter_rising : (p : A → Bool) (xs : List A) → Rising R xs → Rising R (filter p xs)
  filter_rising p [] h = tt
  filter_rising p (x ∷ xs) h = by (p x) (filter_rising p xs h.1)
    where
      by : (b : Bool) → Rising R (filter p xs) → Rising R (cond b (x ∷ filter p xs) (filter p xs))
      by true g = (all_in (R x) (filter p xs) (λ y k. each_in (R x) xs y h.0 (in_filter p xs y k).0), g)
      by false g = g

  pub each_rising : {S : Type 0} (f : ℕ → S → List A) → ((j k : ℕ) (a b : S) (x y : A) → j < k → In (f j a) x → In (f k b) y → R x y) → (n : ℕ) (xs : List S)
      → ((k : ℕ) (d : S) → k < length xs → Rising R (f (n + k) (get_or xs k d))) → Rising R (each_from f n xs)
  each_rising f g n [] h = tt
  each_rising f g n (a ∷ xs) h =
      let here : n + 0 ≡ n = omega arith in
      let rest : Rising R (each_from f (suc n) xs) = each_rising f g (suc n) xs (λ k d l. let next : n + suc k ≡ suc n + k = omega arith in
      subst (λ m. Rising R (f m (get_or xs k d))) next (h (suc k) d (omega (arith, l)))) in
      joined_rising (f n a) (each_from f (suc n) xs) (subst (λ m. Rising R (f m a)) here (h 0 a (omega arith))) rest
      (λ x y p q. let r = in_part f (suc n) xs y q in g n (suc n + r.0) a (get_or xs r.0 a) x y (omega arith) p (r.2 a))

  pub map_rising : {S : Type 0} (Q : S → S → Type 0) (f : S → A) → ((a b : S) → Q a b → R (f a) (f b)) → (xs : List S) → Rising Q xs → Rising R (map f xs)
  map_rising Q f g [] h = tt
  map_rising Q f g (x ∷ xs) h = (all_in (R (f x)) (map f xs) (λ y k. let r = map_in f xs y k in subst (R (f x)) r.2 (g x r.0 (each_in (Q x) xs r.0 h.0 r.1))), map_rising Q f g xs h.1)

pub sorted_rising : {A : Type 0} (c : A → A → Ordering) (xs : List A) → IsStrictlySortedBy c xs → Rising (λ x y. c x y ≡ Less) xs
unfolding IsStrictlySortedBy
sorted_rising c [] h = tt
sorted_rising c (x ∷ xs) h = (h.0, sorted_rising c xs h.1)

module _ {A : Type 0} (R : A → A → Type 0) (never : (x : A) → R x x → ⊥) (on : (x y z : A) → R x y → R y z → R x z) where
  -- the first elements are one
  same_head : (x y : A) (xs ys : List A) → AllByRecursion (R x) xs → AllByRecursion (R y) ys → In (y ∷ ys) x → In (x ∷ xs) y → x ≡ y
  same_head x y xs ys up vp (inl e) g = sym e
  same_head x y xs ys up vp (inr h) (inl e) = e
  same_head x y xs ys up vp (inr h) (inr g) = absurd (never x (on x y x (each_in (R x) xs y up g) (each_in (R y) ys x vp h)))

  -- an element of the rest is one of the other's rest
  later : (x y : A) (xs ys : List A) → x ≡ y → AllByRecursion (R x) xs → (z : A) → In xs z → In (y ∷ ys) z → In ys z
  later x y xs ys e up z h (inl f) = absurd (never x (subst (R x) (sym (e ∙ f)) (each_in (R x) xs z up h)))
  later x y xs ys e up z h (inr g) = g

  pub one_list : (xs ys : List A) → Rising R xs → Rising R ys → ((x : A) → In xs x → In ys x) → ((x : A) → In ys x → In xs x) → xs ≡ ys
  one_list [] [] up vp to back = refl
  one_list [] (y ∷ ys) up vp to back = absurd (back y (inl refl))
  one_list (x ∷ xs) [] up vp to back = absurd (to x (inl refl))
  one_list (x ∷ xs) (y ∷ ys) up vp to back = let e = same_head x y xs ys up.0 vp.0 (to x (inl refl)) (back y (inl refl)) in
      let rest = one_list xs ys up.1 vp.1 (λ z h. later x y xs ys e up.0 z h (to z (inr h))) (λ z h. later y x ys xs (sym e) vp.0 z h (back z (inr h))) in
      λ i. e i ∷ rest i

-- Two lists that rise strictly and have the same members are one list.
use Rattle.std.proofs.Common.{◌≡◌, ℕ, zero, suc, ◌<◌, Bool, true, false, ◌||◌, List, [], ◌∷◌, length, slice_index_or, refl, ap, sym, subst, ◌∙◌, ◌⊎◌, inl, inr, arith}
use Rattle.std.specs.List.{list_any, AllPairs, AllByRecursion, Contains}
use Rattle.std.proofs.lemmas.Bool.{false≢true}

-- x is one of the list
abbrev pub In : {A : Type 0} → List A → A → Type 0
In [] x = ⊥
In (y ∷ ys) x = (y ≡ x) ⊎ In ys x

-- each element stands before all later ones
abbrev pub Rising : {A : Type 0} → (A → A → Type 0) → List A → Type 0
Rising R [] = Unit {0}
Rising R (x ∷ xs) = AllByRecursion (R x) xs × Rising R xs

-- what holds of each element holds of one
each_in : {A : Type 0} (P : A → Type 0) (xs : List A) (x : A) → AllByRecursion P xs → In xs x → P x
each_in P [] x h g = absurd g
each_in P (y ∷ ys) x h (inl e) = subst P e h.0
each_in P (y ∷ ys) x h (inr g) = each_in P ys x h.1 g

module _ {A : Type 0} (R : A → A → Type 0) (never : (x : A) → R x x → ⊥) (on : (x y z : A) → R x y → R y z → R x z) where
  -- the first elements are one
  same_head : (x y : A) (xs ys : List A) → AllByRecursion (R x) xs → AllByRecursion (R y) ys → In (y ∷ ys) x → In (x ∷ xs) y → x ≡ y
  same_head x y xs ys up vp (inl e) g = sym e
  same_head x y xs ys up vp (inr h) (inl e) = e
  same_head x y xs ys up vp (inr h) (inr g) = absurd (never x (on x y x (each_in (R x) xs y up g) (each_in (R y) ys x vp h)))

  -- an element of the rest is one of the other's rest
  later : (x y : A) (xs ys : List A) → x ≡ y → AllByRecursion (R x) xs → (z : A) → In xs z → In (y ∷ ys) z → In ys z
  later x y xs ys e up z h (inl f) = absurd (never x (subst (R x) (sym (e ∙ f)) (each_in (R x) xs z up h)))
  later x y xs ys e up z h (inr g) = g

  pub one_list : (xs ys : List A) → Rising R xs → Rising R ys → ((x : A) → In xs x → In ys x) → ((x : A) → In ys x → In xs x) → xs ≡ ys
  one_list [] [] up vp to back = refl
  one_list [] (y ∷ ys) up vp to back = absurd (back y (inl refl))
  one_list (x ∷ xs) [] up vp to back = absurd (to x (inl refl))
  one_list (x ∷ xs) (y ∷ ys) up vp to back = let e = same_head x y xs ys up.0 vp.0 (to x (inl refl)) (back y (inl refl)) in
      let rest = one_list xs ys up.1 vp.1 (λ z h. later x y xs ys e up.0 z h (to z (inr h))) (λ z h. later y x ys xs (sym e) vp.0 z h (back z (inr h))) in
      λ i. e i ∷ rest i

-- ---- the ways in which lists are said to rise and to have members

pub in_contains : {A : Type 0} (xs : List A) (x : A) → Contains xs x → In xs x
in_contains [] x h = absurd (omega (arith, h.1))
in_contains (y ∷ ys) x (zero, l, e) = inl e
in_contains (y ∷ ys) x (suc k, l, e) = inr (in_contains ys x (k, omega arith, e))

pub contains_in : {A : Type 0} (xs : List A) (x : A) → In xs x → Contains xs x
contains_in [] x h = absurd h
contains_in (y ∷ ys) x (inl e) = (0, omega arith, e)
contains_in (y ∷ ys) x (inr h) = let r = contains_in ys x h in (suc r.0, omega (arith, r.1), r.2)

-- by a test that finds x alone
module _ {A : Type 0} (p : A → Bool) (x : A) (finds : (y : A) → p y ≡ true → y ≡ x) (itself : p x ≡ true) where
  pub in_any : (xs : List A) → list_any p xs ≡ true → In xs x
  in_any [] h = absurd (false≢true h)
  in_any (y ∷ ys) h = by (p y) refl h (in_any ys)
    where
      by : (b : Bool) → p y ≡ b → (b || list_any p ys) ≡ true → (list_any p ys ≡ true → In ys x) → In (y ∷ ys) x
      by true e g rest = inl (finds y e)
      by false e g rest = inr (rest g)

  pub any_in : (xs : List A) → In xs x → list_any p xs ≡ true
  any_in [] h = absurd h
  any_in (y ∷ ys) (inl e) = ap (λ b. b || list_any p ys) (ap p e ∙ itself)
  any_in (y ∷ ys) (inr h) = by (p y) (any_in ys h)
    where
      by : (b : Bool) → list_any p ys ≡ true → (b || list_any p ys) ≡ true
      by true rest = refl
      by false rest = rest

-- each pair in order
module _ {A : Type 0} (R : A → A → Type 0) where
  first_before : (x : A) (ys xs : List A) → ((k : ℕ) (d : A) → k < length xs → R x (slice_index_or xs k d)) → AllByRecursion (R x) xs
  first_before x ys [] h = tt
  first_before x ys (y ∷ more) h = (h 0 y (omega arith), first_before x ys more (λ k d l. h (suc k) d (omega (arith, l))))

  pub rising_pairs : (xs : List A) → AllPairs R xs → Rising R xs
  rising_pairs [] h = tt
  rising_pairs (x ∷ xs) h = (first_before x xs xs (λ k d l. h 0 (suc k) d (omega arith) (omega (arith, l))), rising_pairs xs (λ i j d l g. h (suc i) (suc j) d (omega (arith, l)) (omega (arith, g))))

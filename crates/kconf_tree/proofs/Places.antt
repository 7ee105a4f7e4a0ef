-- Where the first element that passes a test stands, and lists with each element once.
use Rattle.std.proofs.Common.{◌≡◌, ℕ, zero, suc, ◌+◌, ◌<◌, ◌≤◌, Bool, true, false, not, ◌||◌, cond, ltb, nat_lt, None, Some, List, [], ◌∷◌, ◌++◌, length, map, filter, position, get_or, slice_get, refl, ap, sym, ◌∙◌, arith}
use Rattle.std.proofs.lemmas.Bool.{false≢true, lt-ltb, ltb-false}
use Rattle.std.specs.Cmp.{IsEquivalence}
use Rattle.std.specs.List.{list_any, position_or_len}
use Rattle.indexmap.specs.IndexSet.{insert_key}
use Rattle.kconf_tree.specs.Gathered.{distinct}
use Rattle.kconf_tree.specs.Apart.{AreApart}

-- a test after a map
pub position_or_len-map : {A B : Type 0} (f : A → B) (p : B → Bool) (xs : List A) → position_or_len p (map f xs) ≡ position_or_len (λ x. p (f x)) xs
position_or_len-map f p [] = refl
position_or_len-map f p (x ∷ xs) = ap (λ n. cond (not (p (f x))) (1 + n) 0) (position_or_len-map f p xs)

length-map_ : {A B : Type 0} (f : A → B) (xs : List A) → length (map f xs) ≡ length xs
length-map_ f [] = refl
length-map_ f (x ∷ xs) = ap suc (length-map_ f xs)

pub position-map : {A B : Type 0} (f : A → B) (p : B → Bool) (xs : List A) → position p (map f xs) ≡ position (λ x. p (f x)) xs
position-map f p xs i = cond (nat_lt (position_or_len-map f p xs i) (length-map_ f xs i)) (Some (position_or_len-map f p xs i)) None

-- tests that answer alike find the same
pub same_position : {A : Type 0} (p q : A → Bool) (xs : List A) → ((x : A) → p x ≡ q x) → position p xs ≡ position q xs
same_position p q xs e i = position (λ x. e x i) xs

-- ---- each once

-- a filter keeps or drops one more
pub filter_push : {A : Type 0} (p : A → Bool) (xs : List A) (x : A) → filter p (xs ++ x ∷ []) ≡ cond (p x) (filter p xs ++ x ∷ []) (filter p xs)
filter_push p [] x = by (p x)
  where
    by : (b : Bool) → cond b (x ∷ []) [] ≡ cond b (x ∷ []) []
    by b = refl
filter_push p (y ∷ ys) x = ap (λ zs. cond (p y) (y ∷ zs) zs) (filter_push p ys x) ∙ by (p y) (p x)
  where
    by : (b c : Bool) → cond b (y ∷ cond c (filter p ys ++ x ∷ []) (filter p ys)) (cond c (filter p ys ++ x ∷ []) (filter p ys)) ≡ cond c (cond b (y ∷ filter p ys) (filter p ys) ++ x ∷ []) (cond b (y ∷ filter p ys) (filter p ys))
    by true true = refl
    by true false = refl
    by false true = refl
    by false false = refl

none_filtered : {A : Type 0} (p q : A → Bool) (xs : List A) → list_any q xs ≡ false → list_any q (filter p xs) ≡ false
none_filtered p q [] h = refl
none_filtered p q (x ∷ xs) h = by (q x) (p x) refl h (none_filtered p q xs)
  where
    by : (b c : Bool) → q x ≡ b → (b || list_any q xs) ≡ false → (list_any q xs ≡ false → list_any q (filter p xs) ≡ false) → list_any q (cond c (x ∷ filter p xs) (filter p xs)) ≡ false
    by true c e g r = absurd (false≢true (sym g))
    by false true e g r = ap (λ b. b || list_any q (filter p xs)) e ∙ r g
    by false false e g r = r g

apart_filtered : {A : Type 0} (eq : A → A → Bool) (p : A → Bool) (xs : List A) → AreApart eq xs → AreApart eq (filter p xs)
apart_filtered eq p [] h = tt
apart_filtered eq p (x ∷ xs) h = by (p x) (apart_filtered eq p xs h.1)
  where
    by : (c : Bool) → AreApart eq (filter p xs) → AreApart eq (cond c (x ∷ filter p xs) (filter p xs))
    by true r = (none_filtered p (eq x) xs h.0, r)
    by false r = r

none_like : {A : Type 0} (eq : A → A → Bool) (x : A) (xs : List A) → list_any (eq x) (filter (λ y. not (eq x y)) xs) ≡ false
none_like eq x [] = refl
none_like eq x (y ∷ ys) = by (eq x y) refl (none_like eq x ys)
  where
    by : (b : Bool) → eq x y ≡ b → list_any (eq x) (filter (λ z. not (eq x z)) ys) ≡ false → list_any (eq x) (cond (not b) (y ∷ filter (λ z. not (eq x z)) ys) (filter (λ z. not (eq x z)) ys)) ≡ false
    by true e r = r
    by false e r = ap (λ b. b || list_any (eq x) (filter (λ z. not (eq x z)) ys)) e ∙ r

-- the elements of a list, each once, are apart
pub distinct_apart : {A : Type 0} (eq : A → A → Bool) (xs : List A) → AreApart eq (distinct eq xs)
distinct_apart eq [] = tt
distinct_apart eq (x ∷ xs) = (none_like eq x (distinct eq xs), apart_filtered eq (λ y. not (eq x y)) (distinct eq xs) (distinct_apart eq xs))

module _ {A : Type 0} (eq : A → A → Bool) (laws : IsEquivalence eq) where
  -- whether x is still there once those like y are taken out, if x isn't like y
  any_kept : (x y : A) (xs : List A) → eq x y ≡ false → list_any (eq x) (filter (λ z. not (eq y z)) xs) ≡ list_any (eq x) xs
  any_kept x y [] h = refl
  any_kept x y (z ∷ xs) h = by (eq y z) refl (any_kept x y xs h)
    where
      by : (b : Bool) → eq y z ≡ b → list_any (eq x) (filter (λ w. not (eq y w)) xs) ≡ list_any (eq x) xs → list_any (eq x) (cond (not b) (z ∷ filter (λ w. not (eq y w)) xs) (filter (λ w. not (eq y w)) xs)) ≡ (eq x z || list_any (eq x) xs)
      by true e r = let other : eq x z ≡ false = laws.symm x z ∙ (sym (laws.congr y z x e) ∙ (laws.symm y x ∙ h)) in r ∙ sym (ap (λ b. b || list_any (eq x) xs) other)
      by false e r = ap (λ b. eq x z || b) r

  -- the same elements are there
  pub distinct_has : (x : A) (xs : List A) → list_any (eq x) (distinct eq xs) ≡ list_any (eq x) xs
  distinct_has x [] = refl
  distinct_has x (y ∷ ys) = by (eq x y) refl (distinct_has x ys)
    where
      by : (b : Bool) → eq x y ≡ b → list_any (eq x) (distinct eq ys) ≡ list_any (eq x) ys → (b || list_any (eq x) (filter (λ z. not (eq y z)) (distinct eq ys))) ≡ (b || list_any (eq x) ys)
      by true e r = refl
      by false e r = any_kept x y (distinct eq ys) e ∙ r

  -- one more at the end, as a set takes it in
  pub distinct_push : (xs : List A) (x : A) → distinct eq (xs ++ x ∷ []) ≡ insert_key eq (distinct eq xs) x
  distinct_push [] x = refl
  distinct_push (y ∷ ys) x = ap (λ zs. y ∷ filter (λ z. not (eq y z)) zs) (distinct_push ys x) ∙ by (eq x y) refl (list_any (eq x) (distinct eq ys)) refl
    where
      by : (b : Bool) → eq x y ≡ b → (c : Bool) → list_any (eq x) (distinct eq ys) ≡ c
          → y ∷ filter (λ z. not (eq y z)) (cond c (distinct eq ys) (distinct eq ys ++ x ∷ [])) ≡ cond (b || list_any (eq x) (filter (λ z. not (eq y z)) (distinct eq ys))) (y ∷ filter (λ z. not (eq y z)) (distinct eq ys)) (y ∷ filter (λ z. not (eq y z)) (distinct eq ys) ++ x ∷ [])
      by true e true f = refl
      by true e false f = ap (λ zs. y ∷ zs) (filter_push (λ z. not (eq y z)) (distinct eq ys) x ∙ ap (λ b. cond (not b) (filter (λ z. not (eq y z)) (distinct eq ys) ++ x ∷ []) (filter (λ z. not (eq y z)) (distinct eq ys))) (laws.symm y x ∙ e))
      by false e true f = sym (ap (λ b. cond b (y ∷ filter (λ z. not (eq y z)) (distinct eq ys)) (y ∷ filter (λ z. not (eq y z)) (distinct eq ys) ++ x ∷ [])) (any_kept x y (distinct eq ys) e ∙ f))
      by false e false f = ap (λ zs. y ∷ zs) (filter_push (λ z. not (eq y z)) (distinct eq ys) x ∙ ap (λ b. cond (not b) (filter (λ z. not (eq y z)) (distinct eq ys) ++ x ∷ []) (filter (λ z. not (eq y z)) (distinct eq ys))) (laws.symm y x ∙ e))
          ∙ sym (ap (λ b. cond b (y ∷ filter (λ z. not (eq y z)) (distinct eq ys)) (y ∷ filter (λ z. not (eq y z)) (distinct eq ys) ++ x ∷ [])) (any_kept x y (distinct eq ys) e ∙ f))

-- an element has a place within the list
pub place_within : {A : Type 0} (p : A → Bool) (xs : List A) → list_any p xs ≡ true → position_or_len p xs < length xs
place_within p [] h = absurd (false≢true h)
place_within p (x ∷ xs) h = by (p x) h (place_within p xs)
  where
    by : (b : Bool) → (b || list_any p xs) ≡ true → (list_any p xs ≡ true → position_or_len p xs < length xs) → cond (not b) (1 + position_or_len p xs) 0 < suc (length xs)
    by true g r = omega arith
    by false g r = omega (arith, r g)

pub position_found : {A : Type 0} (p : A → Bool) (xs : List A) → list_any p xs ≡ true → position p xs ≡ Some (position_or_len p xs)
position_found p xs h = ap (λ b. cond b (Some (position_or_len p xs)) None) (lt-ltb _ _ (place_within p xs h))

-- what is read at a place of a mapped list
pub read_mapped : {A B : Type 0} (f : A → B) (xs : List A) (k : ℕ) (x : A) (d : B) → slice_get xs k ≡ Some x → get_or (map f xs) k d ≡ f x
read_mapped f [] k x d h = absurd (cc)
read_mapped f (y ∷ ys) zero x d h = ap f (cc)
read_mapped f (y ∷ ys) (suc k) x d h = read_mapped f ys k x d h

place_most : {A : Type 0} (p : A → Bool) (xs : List A) → position_or_len p xs ≤ length xs
place_most p [] = omega arith
place_most p (x ∷ xs) = by (p x) (place_most p xs)
  where
    by : (b : Bool) → position_or_len p xs ≤ length xs → cond (not b) (1 + position_or_len p xs) 0 ≤ suc (length xs)
    by true g = omega arith
    by false g = omega (arith, g)

-- what is no element has the place past the list
pub no_place : {A : Type 0} (p : A → Bool) (xs : List A) → position p xs ≡ None → length xs ≡ position_or_len p xs
no_place p xs h = by (ltb (position_or_len p xs) (length xs)) refl h
  where
    by : (b : Bool) → ltb (position_or_len p xs) (length xs) ≡ b → cond b (Some (position_or_len p xs)) None ≡ None → length xs ≡ position_or_len p xs
    by true e g = absurd (cc)
    by false e g = omega (arith, place_most p xs, ltb-false (position_or_len p xs) (length xs) e)

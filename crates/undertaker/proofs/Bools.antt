-- Small facts on truths, values and lists.
use Rattle.std.proofs.Common.{◌≡◌, ℕ, ◌==◌, Bool, true, false, not, ◌&&◌, ◌||◌, cond, refl, ap, sym, ◌∙◌, arith, List, [], ◌∷◌, map, min, inl, inr}
use Rattle.std.proofs.lemmas.Bool.Decides.{nat_tests}
use Rattle.std.specs.List.{list_any, list_all}
use Rattle.kconf_tree.specs.Value.{least}
use Rattle.undertaker.specs.Wishes.{Among}
use Rattle.undertaker.specs.FirstTrees.{joined_value}

pub and_left : (a b : Bool) → (a && b) ≡ true → a ≡ true
and_left true b h = refl
and_left false b h = h

pub and_right : (a b : Bool) → (a && b) ≡ true → b ≡ true
and_right true b h = h
and_right false b h = absurd (cc)

pub and_both : (a b : Bool) → a ≡ true → b ≡ true → (a && b) ≡ true
and_both true b h g = g
and_both false b h g = h

pub or_left_false : (a b : Bool) → (a || b) ≡ false → a ≡ false
or_left_false true b h = h
or_left_false false b h = refl

pub or_right_false : (a b : Bool) → (a || b) ≡ false → b ≡ false
or_right_false true b h = absurd (cc)
or_right_false false b h = h

pub number_is : (j k : ℕ) → (j == k) ≡ true → j ≡ k
number_is j k h = grind (arith, nat_tests)

-- a number is itself
pub same_number : (k : ℕ) → (k == k) ≡ true
same_number k = grind (arith, nat_tests)

-- ---- an element of a list

module _ {A : Type 0} (p : A → Bool) where
  pub all_among : (xs : List A) (x : A) → list_all p xs ≡ true → Among x xs → p x ≡ true
  all_among [] x h m = absurd m
  all_among (y ∷ ys) x h (inl e) = ap p e ∙ and_left (p y) (list_all p ys) h
  all_among (y ∷ ys) x h (inr m) = all_among ys x (and_right (p y) (list_all p ys) h) m

  pub all_from_among : (xs : List A) → ((x : A) → Among x xs → p x ≡ true) → list_all p xs ≡ true
  all_from_among [] h = refl
  all_from_among (y ∷ ys) h = and_both (p y) (list_all p ys) (h y (inl refl)) (all_from_among ys (λ x m. h x (inr m)))

  pub any_among : (xs : List A) (x : A) → list_any p xs ≡ false → Among x xs → p x ≡ false
  any_among [] x h m = absurd m
  any_among (y ∷ ys) x h (inl e) = ap p e ∙ or_left_false (p y) (list_any p ys) h
  any_among (y ∷ ys) x h (inr m) = any_among ys x (or_right_false (p y) (list_any p ys) h) m

  pub none_from_among : (xs : List A) → ((x : A) → Among x xs → p x ≡ false) → list_any p xs ≡ false
  none_from_among [] h = refl
  none_from_among (y ∷ ys) h = rw (h y (inl refl)) (none_from_among ys (λ x m. h x (inr m)))

  pub found_among : (xs : List A) → list_any p xs ≡ true → (x : A) × Among x xs × (p x ≡ true)
  found_among [] h = absurd (cc)
  found_among (y ∷ ys) h = by (p y) refl h (found_among ys)
    where
      by : (b : Bool) → p y ≡ b → (b || list_any p ys) ≡ true → ((list_any p ys ≡ true) → (x : A) × Among x ys × (p x ≡ true)) → (x : A) × Among x (y ∷ ys) × (p x ≡ true)
      by true e g rest = (y, inl refl, e)
      by false e g rest = let r = rest g in (r.0, inr r.1, r.2)

  pub any_from_among : (xs : List A) (x : A) → Among x xs → p x ≡ true → list_any p xs ≡ true
  any_from_among [] x m h = absurd m
  any_from_among (y ∷ ys) x (inl e) h = rw (sym (ap p e) ∙ h) refl
  any_from_among (y ∷ ys) x (inr m) h = rw (any_from_among ys x m h) (by (p y))
    where
      by : (b : Bool) → (b || true) ≡ true
      by true = refl
      by false = refl

-- ---- the least of values

least_some : (v : ℕ → ℕ) (ks : List ℕ) → (least (map v ks) == 0) ≡ false → list_all (λ k. not (v k == 0)) ks ≡ true
least_some v [] h = refl
least_some v (k ∷ ks) h = and_both _ _ (own (v k) (least (map v ks)) h) (least_some v ks (rest (v k) (least (map v ks)) h))
  where
    own : (m n : ℕ) → (min m n == 0) ≡ false → not (m == 0) ≡ true
    own m n g = grind (arith, nat_tests)

    rest : (m n : ℕ) → (min m n == 0) ≡ false → (n == 0) ≡ false
    rest m n g = grind (arith, nat_tests)

least_of_y : (s : ℕ → Bool) (ks : List ℕ) → list_all s ks ≡ true → ◌≡◌ {A = ℕ} (least (map (λ k. cond (s k) 2 0) ks)) 2
least_of_y s [] h = refl
least_of_y s (k ∷ ks) h = rw (and_left (s k) (list_all s ks) h, least_of_y s ks (and_right (s k) (list_all s ks) h)) refl

pub joined_some : (v : ℕ → ℕ) (ks : List ℕ) → (joined_value v ks == 0) ≡ false → list_all (λ k. not (v k == 0)) ks ≡ true
joined_some v [] h = refl
joined_some v (k ∷ []) h = rw h refl
joined_some v (j ∷ k ∷ ks) h = least_some v (j ∷ k ∷ ks) h

pub joined_of_y : (s : ℕ → Bool) (ks : List ℕ) → list_all s ks ≡ true → ◌≡◌ {A = ℕ} (joined_value (λ k. cond (s k) 2 0) ks) 2
joined_of_y s [] h = refl
joined_of_y s (k ∷ []) h = rw (and_left (s k) true h) refl
joined_of_y s (j ∷ k ∷ ks) h = least_of_y s (j ∷ k ∷ ks) h

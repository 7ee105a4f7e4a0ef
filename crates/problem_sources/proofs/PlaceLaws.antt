-- Where the first element that passes a test stands in two lists, one after the other.
use Rattle.std.proofs.Common.{◌≡◌, ℕ, suc, ◌+◌, Bool, true, false, not, ◌||◌, cond, nat_lt, None, Some, List, [], ◌∷◌, ◌++◌, length, position, refl, sym, ap, ◌∙◌, arith}
use Rattle.std.specs.List.{list_any, position_or_len}
use Rattle.std.proofs.lemmas.Bool.{le-ltb}
use Rattle.std.proofs.lemmas.Option.{none-some}
use Rattle.kconf_tree.proofs.Places.{position_found}

all_passed : {A : Type 0} (p : A → Bool) (xs : List A) → list_any p xs ≡ false → position_or_len p xs ≡ length xs
all_passed p [] h = refl
all_passed p (x ∷ xs) h = by (p x) h (all_passed p xs)
  where
    by : (b : Bool) → (b || list_any p xs) ≡ false → (list_any p xs ≡ false → position_or_len p xs ≡ length xs) → cond (not b) (1 + position_or_len p xs) 0 ≡ suc (length xs)
    by true g r = absurd (cc)
    by false g r = omega (arith, r g)

-- where none passes, the place is past the list
pub passed : {A : Type 0} (p : A → Bool) (xs : List A) → list_any p xs ≡ false → position p xs ≡ None
passed p xs h = ap (λ n. cond (nat_lt n (length xs)) (Some n) None) (all_passed p xs h) ∙ ap (λ b. cond b (Some (length xs)) None) (le-ltb (length xs) (length xs) (omega arith))

-- tests that answer alike pass alike
pub same_any : {A : Type 0} (p q : A → Bool) (xs : List A) → ((x : A) → p x ≡ q x) → list_any p xs ≡ list_any q xs
same_any p q xs e i = list_any (λ x. e x i) xs

-- a place that is found is that of some element
pub found_any : {A : Type 0} (p : A → Bool) (xs : List A) (k : ℕ) → position p xs ≡ Some k → list_any p xs ≡ true
found_any p xs k h = by (list_any p xs) refl
  where
    by : (b : Bool) → list_any p xs ≡ b → b ≡ true
    by true e = refl
    by false e = absurd (none-some k (sym (passed p xs e) ∙ h))

-- and where none is found there is none
pub none_any : {A : Type 0} (p : A → Bool) (xs : List A) → position p xs ≡ None → list_any p xs ≡ false
none_any p xs h = by (list_any p xs) refl
  where
    by : (b : Bool) → list_any p xs ≡ b → b ≡ false
    by true e = absurd (none-some (position_or_len p xs) (sym h ∙ position_found p xs e))
    by false e = refl

-- so the place is that of the end
pub past_all : {A : Type 0} (p : A → Bool) (xs : List A) → position p xs ≡ None → position_or_len p xs ≡ length xs
past_all p xs h = all_passed p xs (none_any p xs h)

front : {A : Type 0} (p : A → Bool) (xs ys : List A) → list_any p xs ≡ true → position_or_len p (xs ++ ys) ≡ position_or_len p xs
front p [] ys h = absurd (cc)
front p (x ∷ xs) ys h = by (p x) h (front p xs ys)
  where
    by : (b : Bool) → (b || list_any p xs) ≡ true → (list_any p xs ≡ true → position_or_len p (xs ++ ys) ≡ position_or_len p xs) → cond (not b) (1 + position_or_len p (xs ++ ys)) 0 ≡ cond (not b) (1 + position_or_len p xs) 0
    by true g r = refl
    by false g r = ap (λ n. 1 + n) (r g)

back : {A : Type 0} (p : A → Bool) (xs ys : List A) → list_any p xs ≡ false → position_or_len p (xs ++ ys) ≡ length xs + position_or_len p ys
back p [] ys h = omega arith
back p (x ∷ xs) ys h = by (p x) h (back p xs ys)
  where
    by : (b : Bool) → (b || list_any p xs) ≡ false → (list_any p xs ≡ false → position_or_len p (xs ++ ys) ≡ length xs + position_or_len p ys) → cond (not b) (1 + position_or_len p (xs ++ ys)) 0 ≡ suc (length xs) + position_or_len p ys
    by true g r = absurd (cc)
    by false g r = omega (arith, r g)

some_same : (a b : ℕ) → Some a ≡ Some b → a ≡ b
some_same a b e = cc

-- an element of the first list keeps its place
pub place_front : {A : Type 0} (p : A → Bool) (xs ys : List A) (k : ℕ) → position p xs ≡ Some k → position_or_len p (xs ++ ys) ≡ k
place_front p xs ys k h = let any = found_any p xs k h in front p xs ys any ∙ some_same (position_or_len p xs) k (sym (position_found p xs any) ∙ h)

-- one of the second comes after the first list
pub place_back : {A : Type 0} (p : A → Bool) (xs ys : List A) → position p xs ≡ None → position_or_len p (xs ++ ys) ≡ length xs + position_or_len p ys
place_back p xs ys h = back p xs ys (none_any p xs h)

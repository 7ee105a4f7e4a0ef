-- Laws of tests and of texts that are compared byte by byte.
use Rattle.std.proofs.Common.{◌≡◌, ◌∙◌, ap₂, sym, subst, refl, ℕ, List, [], ◌∷◌, Bool, true, false, ◌&&◌, ◌||◌, ◌==◌, Some, cond, find}
use Rattle.std.proofs.lemmas.Bool.{false≢true, eqb-true, eq-eqb}
use Rattle.std.specs.Str.{bytes_eq}

pub or_false : (b : Bool) → (b || false) ≡ b
or_false true = refl
or_false false = refl

pub or_true : (b : Bool) → (b || true) ≡ true
or_true true = refl
or_true false = refl

pub and_true : (b : Bool) → (b && true) ≡ b
and_true true = refl
and_true false = refl

pub and_false : (b : Bool) → (b && false) ≡ false
and_false true = refl
and_false false = refl

pub and_assoc : (a b c : Bool) → ((a && b) && c) ≡ (a && (b && c))
and_assoc true b c = refl
and_assoc false b c = refl

pub left_of : (a b : Bool) → (a && b) ≡ true → a ≡ true
left_of true b h = refl
left_of false b h = h

pub right_of : (a b : Bool) → (a && b) ≡ true → b ≡ true
right_of true b h = h
right_of false b h = absurd (false≢true h)

pub or_right_false : (a b : Bool) → (a || b) ≡ false → b ≡ false
or_right_false true b h = absurd (false≢true (sym h))
or_right_false false b h = h

pub or_left_false : (a b : Bool) → (a || b) ≡ false → a ≡ false
or_left_false true b h = h
or_left_false false b h = refl

-- a test for equal numbers answers the same the other way round
pub other_way : (a b : ℕ) → (a == b) ≡ false → (b == a) ≡ false
other_way a b e = by (b == a) refl
  where
    by : (t : Bool) → (b == a) ≡ t → (b == a) ≡ false
    by false h = h
    by true h = absurd (false≢true (sym e ∙ eq-eqb a b (sym (eqb-true b a h))))

-- texts that test equal are equal
pub same_text_of : (xs ys : List ℕ) → bytes_eq xs ys ≡ true → xs ≡ ys
same_text_of [] [] h = refl
same_text_of [] (y ∷ ys) h = absurd (false≢true h)
same_text_of (x ∷ xs) [] h = absurd (false≢true h)
same_text_of (x ∷ xs) (y ∷ ys) h =
    ap₂ (λ n ns. n ∷ ns) (eqb-true x y (left_of (x == y) (bytes_eq xs ys) h)) (same_text_of xs ys (right_of (x == y) (bytes_eq xs ys) h))

-- a text tests equal to itself
pub same_text : (text : List ℕ) → bytes_eq text text ≡ true
same_text [] = refl
same_text (byte ∷ text) = ap₂ (λ t u. t && u) (eq-eqb byte byte refl) (same_text text)

-- what a search finds passes its test
pub find_passes : {A : Type 0} (p : A → Bool) (xs : List A) (x : A) → find p xs ≡ Some x → p x ≡ true
find_passes {A} p [] x h = cc
find_passes {A} p (y ∷ ys) x h = by (p y) refl (λ e. find_passes p ys x e) h
  where
    by : (b : Bool) → p y ≡ b → (find p ys ≡ Some x → p x ≡ true) → cond b (Some y) (find p ys) ≡ Some x → p x ≡ true
    by true hit further e =
        let same : y ≡ x = cc in
        subst (λ z. p z ≡ true) same hit
    by false miss further e = further e

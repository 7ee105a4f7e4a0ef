-- Members that get their values one after another.
use Rattle.std.proofs.Common.{◌≡◌, ℕ, zero, suc, ◌+◌, ◌<◌, ◌==◌, Bool, true, false, not, ◌&&◌, ◌||◌, cond, Option, inl, inr, subst, List, [], ◌∷◌, ◌++◌, length, take, get_or, refl, ap, sym, ◌∙◌, arith}
use Rattle.std.proofs.lemmas.List.{take_more}
use Rattle.std.specs.List.{list_any}
use Rattle.kconf_tree.specs.Shape.{is_the}
use Rattle.kconf_tree.specs.Value.{Configuration}
use Rattle.complete_conf.specs.Inner.{with_picked}
use Rattle.kconf_tree.specs.WellMade.{is_among}
use Rattle.complete_conf.specs.Parts.{Part}
use Rattle.kconf_tree.proofs.Small.{or_left, or_right, or_cases, number_is, number_self}

any_push : (p : ℕ → Bool) (xs : List ℕ) (x : ℕ) → list_any p (xs ++ x ∷ []) ≡ (list_any p xs || p x)
any_push p [] x = by (p x)
  where
    by : (b : Bool) → (b || false) ≡ b
    by true = refl
    by false = refl
any_push p (y ∷ ys) x = by (p y) (any_push p ys x)
  where
    by : (b : Bool) → list_any p (ys ++ x ∷ []) ≡ (list_any p ys || p x) → (b || list_any p (ys ++ x ∷ [])) ≡ ((b || list_any p ys) || p x)
    by true h = refl
    by false h = h

one_bit : (a b s : Bool) (x v : ℕ) → cond ((b || false) && not s) x (cond (a && not s) x v) ≡ cond ((a || b) && not s) x v
one_bit true true true x v = refl
one_bit true true false x v = refl
one_bit true false true x v = refl
one_bit true false false x v = refl
one_bit false true true x v = refl
one_bit false true false x v = refl
one_bit false false true x v = refl
one_bit false false false x v = refl

none_bit : (p : Part) (c : Configuration) (o : Option ℕ) → with_picked p c o [] ≡ c
none_bit p c o = refl

one_more : (p : Part) (c : Configuration) (o : Option ℕ) (xs : List ℕ) (m : ℕ) → with_picked p (with_picked p c o xs) o (m ∷ []) ≡ with_picked p c o (xs ++ m ∷ [])
one_more p c o xs m = λ z. record c { value = λ j. here j z }
  where
    here : (j : ℕ) → cond (((m == j) || false) && not (p.symbol j)) (cond (is_the o j) 2 0) (cond (is_among xs j && not (p.symbol j)) (cond (is_the o j) 2 0) (c.value j)) ≡ cond (is_among (xs ++ m ∷ []) j && not (p.symbol j)) (cond (is_the o j) 2 0) (c.value j)
    here j = one_bit (is_among xs j) (m == j) (p.symbol j) (cond (is_the o j) 2 0) (c.value j) ∙ ap (λ b. cond (b && not (p.symbol j)) (cond (is_the o j) 2 0) (c.value j)) (sym (any_push (λ k. k == j) xs m))

pub picked_more : (p : Part) (c d e : Configuration) (o : Option ℕ) (ms : List ℕ) (i m : ℕ) → i < length ms → m ≡ get_or ms i 0 → d ≡ with_picked p c o (take i ms) → e ≡ with_picked p d o (m ∷ []) → e ≡ with_picked p c o (take (i + 1) ms)
picked_more p c d e o ms i m l is h g = g ∙ (ap (λ x. with_picked p x o (m ∷ [])) h ∙ (one_more p c o (take i ms) m ∙ ap (with_picked p c o) (ap (λ x. take i ms ++ x ∷ []) is ∙ sym (take_more ms i 0 l))))

-- ---- members have values

pub among_at : (ms : List ℕ) (i : ℕ) → i < length ms → is_among ms (get_or ms i 0) ≡ true
among_at [] i l = absurd (omega arith)
among_at (m ∷ ms) zero l = or_left (m == m) (is_among ms m) (number_self m)
among_at (m ∷ ms) (suc i) l = or_right (m == get_or ms i 0) (is_among ms (get_or ms i 0)) (among_at ms i (omega arith))

pub one_has : (n k : ℕ) (ms : List ℕ) (i : ℕ) → i < length ms → n ≡ k → ((j : ℕ) → is_among ms j ≡ true → j < k) → (j : ℕ) → is_among (get_or ms i 0 ∷ []) j ≡ true → j < n
one_has n k ms i l e have j h = elim (or_cases (get_or ms i 0 == j) false h) [
  | inl same ↦ subst (λ (x : ℕ). j < x) (sym e) (have j (subst (λ (x : ℕ). is_among ms x ≡ true) (number_is (get_or ms i 0) j same) (among_at ms i l)))
  | inr never ↦ absurd (cc)
]

-- The first that passes, over two lists; and the selects of a symbol, one selecting symbol after another.
use Rattle.std.proofs.Common.{◌≡◌, ℕ, ◌+◌, ◌<◌, Bool, true, false, cond, None, Some, List, [], ◌∷◌, ◌++◌, length, get_or, drop, map, max, refl, ap, ◌∙◌, arith, add-one, drop-cons}
use Rattle.std.proofs.lemmas.List.{map-append}
use Rattle.std.specs.List.{find}
use Rattle.kconf_tree.specs.declared.shape.Symbol.{Symbol}
use Rattle.kconf_tree.specs.Shape.{Selecting}
use Rattle.kconf_tree.specs.Shape.{no_symbol, selects_at, selects_from}
use Rattle.kconf_tree.specs.Value.{greatest}

module _ (p : ℕ → Bool) where
  pub find_front : (xs ys : List ℕ) (m : ℕ) → find p xs ≡ Some m → find p (xs ++ ys) ≡ Some m
  find_front [] ys m h = absurd (cc)
  find_front (x ∷ xs) ys m h = by (p x) h (find_front xs ys m)
    where
      by : (b : Bool) → cond b (Some x) (find p xs) ≡ Some m → (find p xs ≡ Some m → find p (xs ++ ys) ≡ Some m) → cond b (Some x) (find p (xs ++ ys)) ≡ Some m
      by true g rest = g
      by false g rest = rest g

  pub find_after : (xs ys : List ℕ) → find p xs ≡ None → find p (xs ++ ys) ≡ find p ys
  find_after [] ys h = refl
  find_after (x ∷ xs) ys h = by (p x) h (find_after xs ys)
    where
      by : (b : Bool) → cond b (Some x) (find p xs) ≡ None → (find p xs ≡ None → find p (xs ++ ys) ≡ find p ys) → cond b (Some x) (find p (xs ++ ys)) ≡ find p ys
      by true g rest = absurd (cc)
      by false g rest = rest g

greatest_append : (xs ys : List ℕ) → greatest (xs ++ ys) ≡ max (greatest xs) (greatest ys)
greatest_append [] ys = omega arith
greatest_append (x ∷ xs) ys = omega (arith, greatest_append xs ys)

selects_more : (name : List ℕ) (ss : List Symbol) (k : ℕ) → k < length ss → selects_from name k (drop k ss) ≡ selects_at name k (get_or ss k no_symbol).selects ++ selects_from name (k + 1) (drop (k + 1) ss)
selects_more name ss k l = rw (add-one, drop-cons ss k no_symbol) refl

pub raised_more : (f : Selecting → ℕ) (name : List ℕ) (ss : List Symbol) (k all m x : ℕ) → k < length ss → all ≡ max m (greatest (map f (selects_from name k (drop k ss)))) → x ≡ greatest (map f (selects_at name k (get_or ss k no_symbol).selects)) → all ≡ max (max m x) (greatest (map f (selects_from name (k + 1) (drop (k + 1) ss))))
raised_more f name ss k all m x l h e = let front = selects_at name k (get_or ss k no_symbol).selects in let rest = selects_from name (k + 1) (drop (k + 1) ss) in
    let whole : greatest (map f (selects_from name k (drop k ss))) ≡ max (greatest (map f front)) (greatest (map f rest)) = ap (λ ys. greatest (map f ys)) (selects_more name ss k l) ∙ (ap greatest (map-append f front rest) ∙ greatest_append (map f front) (map f rest)) in
    omega (arith, h, e, whole)

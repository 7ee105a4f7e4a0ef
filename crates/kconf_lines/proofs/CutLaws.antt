-- Pieces that each take something are cut off one after another: no count of steps is felt.
use Rattle.std.proofs.Common.{ℕ, zero, suc, ◌≡◌, refl, sym, ap, ◌<◌, ◌≤◌, arith, List, [], ◌∷◌, length, Option, Some, None}
use Rattle.std.specs.Prelude.{IfSome}
use Rattle.kconf_lines.specs.Cut.{onto, go_on, at_most, cut}
use Rattle.kconf_lines.specs.Laws.{Shortens, CutsOneByOne}

module _ {X A : Type 0} (first : List X → Option (A × List X)) (shorter : Shortens first) where
  -- nothing is cut off the empty list
  empty : first [] ≡ None
  empty = by (first []) refl (shorter [])
    where
      by : (o : Option (A × List X)) → first [] ≡ o → IfSome o (λ p. length p.1 < 0) → first [] ≡ None
      by None e h = e
      by (Some p) e h = let z : ⊥ = omega (arith, h) in absurd z

  -- more steps than elements change nothing
  enough : (n m : ℕ) (xs : List X) → length xs ≤ n → length xs ≤ m → at_most first n xs ≡ at_most first m xs
  enough zero zero xs h g = refl
  enough zero (suc m) [] h g = sym (ap (go_on (at_most first m) []) empty)
  enough zero (suc m) (x ∷ s) h g = let z : ⊥ = omega (arith, h) in absurd z
  enough (suc n) zero [] h g = ap (go_on (at_most first n) []) empty
  enough (suc n) zero (x ∷ s) h g = let z : ⊥ = omega (arith, g) in absurd z
  enough (suc n) (suc m) xs h g = by (first xs) (shorter xs) (enough n m)
    where
      by : (o : Option (A × List X)) → IfSome o (λ p. length p.1 < length xs)
          → ((ys : List X) → length ys ≤ n → length ys ≤ m → at_most first n ys ≡ at_most first m ys)
          → go_on (at_most first n) xs o ≡ go_on (at_most first m) xs o
      by None k same = refl
      by (Some p) k same = ap (onto p.0) (same p.1 (omega (arith, k, h)) (omega (arith, k, g)))

  -- the first piece is cut off, and then those of what it leaves
  pub cut_is : CutsOneByOne first
  cut_is [] = sym (ap (go_on (cut first) []) empty)
  cut_is (x ∷ s) = by (first (x ∷ s)) (shorter (x ∷ s))
    where
      by : (o : Option (A × List X)) → IfSome o (λ p. length p.1 < length (x ∷ s))
          → go_on (at_most first (length s)) (x ∷ s) o ≡ go_on (cut first) (x ∷ s) o
      by None k = refl
      by (Some p) k = ap (onto p.0) (enough (length s) (length p.1) p.1 (omega (arith, k)) (omega arith))

  -- what is left is no longer
  pub left_le : (n : ℕ) (xs : List X) → length (at_most first n xs).1 ≤ length xs
  left_le zero xs = omega arith
  left_le (suc n) xs = by (first xs) (shorter xs) (left_le n)
    where
      by : (o : Option (A × List X)) → IfSome o (λ p. length p.1 < length xs) → ((ys : List X) → length (at_most first n ys).1 ≤ length ys)
          → length (go_on (at_most first n) xs o).1 ≤ length xs
      by None k less = omega arith
      by (Some p) k less = let h = less p.1 in omega (arith, h, k)

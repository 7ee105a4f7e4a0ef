-- The least closed list lies in each closed set that has the roots, also in one that no list holds.
use Rattle.std.proofs.Common.{◌≡◌, ℕ, zero, suc, ◌<◌, Bool, true, false, cond, List, [], ◌∷◌, length, get_or, All, Contains, filter, ◌∙◌, ap, arith}
use Rattle.std.proofs.lemmas.List.Elements.{All-weaker, All-contains, All-contains_itself, All-filter, filter_passes}
use Rattle.model_slice.specs.Closed.{IsClosed, IsLeastClosed}

module _ {A : Type 0} (q : A → Bool) where
  kept_at : (x : A) → q x ≡ true → (xs : List A) (k : ℕ) → k < length xs → get_or xs k x ≡ x → Contains (filter q xs) x
  kept_at x t [] k lt e = absurd (omega (arith, lt))
  kept_at x t (y ∷ ys) zero lt e = rw (ap q e ∙ t) (zero, omega arith, e)
  kept_at x t (y ∷ ys) (suc k) lt e = by (q y) (kept_at x t ys k (omega (arith, lt)) e)
    where
      by : (b : Bool) → Contains (filter q ys) x → Contains (cond b (y ∷ filter q ys) (filter q ys)) x
      by true c = (suc c.0, omega (arith, c.1), c.2)
      by false c = c

  -- what passes is kept
  pub kept : (xs : List A) (x : A) → q x ≡ true → Contains xs x → Contains (filter q xs) x
  kept xs x t c = kept_at x t xs c.0 c.1 c.2

  module _ (names_of : A → List A) (roots nodes : List A) (l : IsLeastClosed names_of roots nodes) where
    abbrev front : List A
    front = filter q nodes

    module _ (r : All (λ n. q n ≡ true) roots) (c : (n : A) → q n ≡ true → All (λ m. q m ≡ true) (names_of n)) where
      rooted : All (Contains front) roots
      rooted k d lt = kept nodes (get_or roots k d) (r k d lt) (l.rooted k d lt)

      closed : IsClosed names_of front
      closed k d lt j e small =
          let n = get_or front k d in
          let inside : Contains nodes n = All-filter q (Contains nodes) nodes (All-contains_itself nodes) k d lt in
          let named = All-contains (λ m. All (Contains nodes) (names_of m)) nodes n l.closed inside in
          kept nodes (get_or (names_of n) j e) (c n (filter_passes q nodes k d lt) j e small) (named j e small)

      -- where the roots pass, and with a node all that it names, the nodes pass
      pub least_test : All (λ n. q n ≡ true) nodes
      least_test = All-weaker (Contains front) (λ n. q n ≡ true) (λ n. All-contains (λ m. q m ≡ true) front n (filter_passes q nodes)) nodes (l.least front rooted closed)

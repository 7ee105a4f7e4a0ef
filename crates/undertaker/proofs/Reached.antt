-- The search for what is reached: what it keeps, and what it has in the end.
use Rattle.std.proofs.Common.{◌≡◌, ℕ, ◌+◌, ◌-◌, ◌≤◌, ◌<◌, ◌==◌, zero, suc, Bool, true, false, ◌||◌, List, [], ◌∷◌, ◌++◌, length, take, get_or, refl, sym, ap, subst, ◌∙◌, ◌⊎◌, inl, inr, ⊎_elim, arith, cond, eqb}
use Rattle.std.proofs.lemmas.Bool.Decides.{nat_tests}
use Rattle.std.proofs.Common.{length-append}
use Rattle.std.proofs.lemmas.List.{take_more, take-append-le}
use Rattle.std.proofs.Math.Seq.{take-length}
use Rattle.std.proofs.lemmas.List.Folds.{list_any-append}
use Rattle.std.specs.List.{list_any, list_all, All, IsDistinct}
use Rattle.std.specs.Cmp.{IsEquivalence}
use Rattle.std.proofs.lemmas.Cmp.{nat_eq_equiv}
use Rattle.std.proofs.lemmas.Map.Keys.{IsDistinct-push}
use Rattle.std.proofs.lemmas.Map.Steps.{length-le_from_distinct_below}
use Rattle.std.proofs.lemmas.List.Elements.{All-append}
use Rattle.undertaker.specs.Dependencies.{Graph, needs_at, is_among, IsClosed, IsLeastClosed}
use Rattle.undertaker.specs.Marks.{with_one, added}
use Rattle.undertaker.proofs.Bools.{and_left, and_right, and_both, number_is, same_number}

either : (a b : Bool) → (a || b) ≡ true → (a ≡ true) ⊎ (b ≡ true)
either true b h = inl refl
either false b h = inr h

on_left : (a b : Bool) → a ≡ true → (a || b) ≡ true
on_left true b h = refl
on_left false b h = absurd (cc)

on_right : (a b : Bool) → b ≡ true → (a || b) ≡ true
on_right true b h = refl
on_right false b h = h

-- ---- what is added

among_one : (found : List ℕ) (k q : ℕ) → is_among (with_one found k) q ≡ (is_among found q || (k == q))
among_one found k q = by (is_among found k) refl
  where
    same : (b : Bool) → (k == q) ≡ b → is_among found k ≡ true → is_among found q ≡ (is_among found q || b)
    same true e h = (sym (ap (is_among found) (number_is k q e)) ∙ h) ∙ sym (on_right (is_among found q) true refl)
    same false e h = off (is_among found q)
      where
        off : (a : Bool) → a ≡ (a || false)
        off true = refl
        off false = refl

    by : (b : Bool) → is_among found k ≡ b → is_among (cond b found (found ++ k ∷ [])) q ≡ (is_among found q || (k == q))
    by true h = same (k == q) refl h
    by false h = list_any-append (λ j. j == q) found (k ∷ []) ∙ ap (λ b. is_among found q || b) (last (k == q))
      where
        last : (a : Bool) → (a || false) ≡ a
        last true = refl
        last false = refl

pub among_added : (found more : List ℕ) (q : ℕ) → is_among (added found more) q ≡ (is_among found q || is_among more q)
among_added found [] q = off (is_among found q)
  where
    off : (a : Bool) → a ≡ (a || false)
    off true = refl
    off false = refl
among_added found (k ∷ more) q = among_added (with_one found k) more q ∙ (ap (λ b. b || is_among more q) (among_one found k q) ∙ group (is_among found q) (k == q) (is_among more q))
  where
    group : (a b c : Bool) → ((a || b) || c) ≡ (a || (b || c))
    group true b c = refl
    group false b c = refl

front_one : (found : List ℕ) (k n : ℕ) → n ≤ length found → (take n (with_one found k) ≡ take n found) × (length found ≤ length (with_one found k))
front_one found k n h = by (is_among found k)
  where
    by : (b : Bool) → (take n (cond b found (found ++ k ∷ [])) ≡ take n found) × (length found ≤ length (cond b found (found ++ k ∷ [])))
    by true = (refl, omega arith)
    by false = (take-append-le n found (k ∷ []) h, omega (arith, length-append found (k ∷ [])))

pub length_added : (found more : List ℕ) → length found ≤ length (added found more)
length_added found [] = omega arith
length_added found (k ∷ more) = omega (arith, length_added (with_one found k) more, (front_one found k 0 (omega arith)).1)

pub take_added : (found more : List ℕ) (n : ℕ) → n ≤ length found → take n (added found more) ≡ take n found
take_added found [] n h = refl
take_added found (k ∷ more) n h = let one = front_one found k n h in take_added (with_one found k) more n (omega arith) ∙ one.0

-- ---- each once, and below the number of symbols

number_laws : IsEquivalence eqb
number_laws = nat_eq_equiv

turned_any : (ks : List ℕ) (k : ℕ) → list_any (λ j. k == j) ks ≡ is_among ks k
turned_any [] k = refl
turned_any (j ∷ ks) k = rw (turned j k, turned_any ks k) refl
  where
    turned : (m n : ℕ) → (n == m) ≡ (m == n)
    turned m n = grind (arith, nat_tests)

distinct_added : (found more : List ℕ) → IsDistinct eqb found → IsDistinct eqb (added found more)
distinct_added found [] d = d
distinct_added found (k ∷ more) d = distinct_added (with_one found k) more (by (is_among found k) refl)
  where
    by : (b : Bool) → is_among found k ≡ b → IsDistinct eqb (cond b found (found ++ k ∷ []))
    by true h = d
    by false h = IsDistinct-push number_laws found k d (turned_any found k ∙ h)

all_tail : (n k : ℕ) (ks : List ℕ) → All (λ j. j < n) (k ∷ ks) → All (λ j. j < n) ks
all_tail n k ks h i d lt = h (suc i) d (omega arith)

below_added : (n : ℕ) (found more : List ℕ) → All (λ k. k < n) found → All (λ k. k < n) more → All (λ k. k < n) (added found more)
below_added n found [] b h = b
below_added n found (k ∷ more) b h = below_added n (with_one found k) more (one (is_among found k)) (all_tail n k more h)
  where
    alone : All (λ j. j < n) (k ∷ [])
    alone zero d lt = h 0 k (omega arith)
    alone (suc i) d lt = absurd (omega arith)

    one : (t : Bool) → All (λ j. j < n) (cond t found (found ++ k ∷ []))
    one true = b
    one false = All-append (λ j. j < n) found (k ∷ []) b alone

-- ---- the search

-- those before `at` have all that they need among the found
pub record Progress (g : Graph) (wanted found : List ℕ) (at : ℕ) : Type 0 where
  pub in_range : at ≤ length found
  pub distinct : IsDistinct eqb found
  pub below : All (λ k. k < length g.needs) found
  pub rooted : list_all (is_among found) wanted ≡ true
  pub done : (k : ℕ) → is_among (take at found) k ≡ true → list_all (is_among found) (needs_at g k) ≡ true
  pub least : (s : ℕ → Bool) → list_all s wanted ≡ true → IsClosed g s → list_all s found ≡ true

all_found : (s : ℕ → Bool) (ks : List ℕ) → ((k : ℕ) → is_among ks k ≡ true → s k ≡ true) → list_all s ks ≡ true
all_found s [] h = refl
all_found s (k ∷ ks) h = and_both _ _ (h k (on_left (k == k) (is_among ks k) (same_number k))) (all_found s ks (λ j m. h j (on_right (k == j) (is_among ks j) m)))

found_all : (s : ℕ → Bool) (ks : List ℕ) (k : ℕ) → list_all s ks ≡ true → is_among ks k ≡ true → s k ≡ true
found_all s [] k h m = absurd (cc)
found_all s (j ∷ ks) k h m = by (j == k) refl m (found_all s ks k (and_right (s j) (list_all s ks) h))
  where
    by : (b : Bool) → (j == k) ≡ b → (b || is_among ks k) ≡ true → (is_among ks k ≡ true → s k ≡ true) → s k ≡ true
    by true e n rest = subst (λ i. s i ≡ true) (number_is j k e) (and_left (s j) (list_all s ks) h)
    by false e n rest = rest n

wider : (xs ys ks : List ℕ) → ((k : ℕ) → is_among xs k ≡ true → is_among ys k ≡ true) → list_all (is_among xs) ks ≡ true → list_all (is_among ys) ks ≡ true
wider xs ys ks h g = all_found (is_among ys) ks (λ k m. h k (found_all (is_among xs) ks k g m))

pub begin : (g : Graph) (wanted : List ℕ) → All (λ k. k < length g.needs) wanted → Progress g wanted (added [] wanted) 0
unfolding IsDistinct
begin g wanted b = record {
  in_range = omega arith;
  distinct = distinct_added [] wanted tt;
  below = below_added (length g.needs) [] wanted (λ k d lt. absurd (none k lt)) b;
  rooted = all_found (is_among (added [] wanted)) wanted (λ k m. among_added [] wanted k ∙ m);
  done = λ k m. absurd (no m);
  least = λ s h c. all_found s (added [] wanted) (λ k m. found_all s wanted k h (sym (among_added [] wanted k) ∙ m));
}
  where
    none : (k : ℕ) → k < 0 → ⊥
    none k lt = omega arith

    no : false ≡ true → ⊥
    no h = absurd (cc)

pub smaller : (g : Graph) (wanted found : List ℕ) (at : ℕ) → Progress g wanted found at → at < length found → length g.needs - (at + 1) < length g.needs - at
smaller g wanted found at p h = omega (arith, length-le_from_distinct_below found (length g.needs) p.distinct among_below)
  where
    among_below : (q : ℕ) → list_any (eqb q) found ≡ true → q < length g.needs
    among_below q m = in_list found p.below (sym (turned_any found q) ∙ m)
      where
        in_list : (ks : List ℕ) → All (λ k. k < length g.needs) ks → is_among ks q ≡ true → q < length g.needs
        in_list [] b n = absurd (cc)
        in_list (k ∷ ks) b n = by (k == q) refl n (in_list ks (all_tail (length g.needs) k ks b))
          where
            by : (t : Bool) → (k == q) ≡ t → (t || is_among ks q) ≡ true → (is_among ks q ≡ true → q < length g.needs) → q < length g.needs
            by true e i rest = subst (λ j. j < length g.needs) (number_is k q e) (b 0 k (omega arith))
            by false e i rest = rest i

module _ (g : Graph) (wanted found : List ℕ) (at : ℕ) (p : Progress g wanted found at) (h : at < length found) (n : ℕ) (e : (d : ℕ) → get_or found at d ≡ n)
    (rows : All (λ k. k < length g.needs) (needs_at g n)) where
  abbrev next : List ℕ
  next = added found (needs_at g n)

  old : (k : ℕ) → is_among found k ≡ true → is_among next k ≡ true
  old k m = among_added found (needs_at g n) k ∙ on_left (is_among found k) (is_among (needs_at g n) k) m

  new : (k : ℕ) → is_among (needs_at g n) k ≡ true → is_among next k ≡ true
  new k m = among_added found (needs_at g n) k ∙ on_right (is_among found k) (is_among (needs_at g n) k) m

  in_next : (k : ℕ) → is_among next k ≡ true → (is_among found k ≡ true) ⊎ (is_among (needs_at g n) k ≡ true)
  in_next k m = either (is_among found k) (is_among (needs_at g n) k) (sym (among_added found (needs_at g n) k) ∙ m)

  n_found : is_among found n ≡ true
  n_found = at_place found at h e
    where
      at_place : (ks : List ℕ) (i : ℕ) → i < length ks → ((d : ℕ) → get_or ks i d ≡ n) → is_among ks n ≡ true
      at_place [] i lt f = absurd (omega arith)
      at_place (k ∷ ks) zero lt f = on_left (k == n) (is_among ks n) (subst (λ j. (j == n) ≡ true) (sym (f 0)) (same_number n))
      at_place (k ∷ ks) (suc i) lt f = on_right (k == n) (is_among ks n) (at_place ks i (omega arith) f)

  in_front : (k : ℕ) → is_among (take (at + 1) next) k ≡ true → (is_among (take at found) k ≡ true) ⊎ ((n == k) ≡ true)
  in_front k m = either (is_among (take at found) k) (n == k) (sym same ∙ m)
    where
      off : (a : Bool) → (a || false) ≡ a
      off true = refl
      off false = refl

      same : is_among (take (at + 1) next) k ≡ (is_among (take at found) k || (n == k))
      same = rw (take_added found (needs_at g n) (at + 1) (omega arith), take_more found at n h, e n) (list_any-append (λ j. j == k) (take at found) (n ∷ []) ∙ ap (λ b. is_among (take at found) k || b) (off (n == k)))

  pub go_on : Progress g wanted next (at + 1)
  go_on = record {
    in_range = omega (arith, length_added found (needs_at g n));
    distinct = distinct_added found (needs_at g n) p.distinct;
    below = below_added (length g.needs) found (needs_at g n) p.below rows;
    rooted = wider found next wanted old p.rooted;
    done = λ k m. ⊎_elim (λ a. wider found next (needs_at g k) old (p.done k a)) (λ b. subst (λ j. list_all (is_among next) (needs_at g j) ≡ true) (number_is n k b) (all_found (is_among next) (needs_at g n) new)) (in_front k m);
    least = λ s r c. all_found s next (λ k m. ⊎_elim (found_all s found k (p.least s r c)) (found_all s (needs_at g n) k (c n (found_all s found n (p.least s r c) n_found))) (in_next k m));
  }

-- after the last the found are the least closed set
pub all_done : (g : Graph) (wanted found : List ℕ) (at : ℕ) → Progress g wanted found at → length found ≤ at → IsLeastClosed g wanted found
all_done g wanted found at p h = record {
  rooted = p.rooted;
  closed = λ k m. p.done k (subst (λ ks. is_among ks k ≡ true) (sym whole) m);
  least = p.least;
}
  where
    same : length found ≡ at
    same = omega (arith, h, p.in_range)

    whole : take at found ≡ found
    whole = subst (λ n. take n found ≡ found) same (take-length found)

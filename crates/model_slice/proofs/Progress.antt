-- The search for what is reached: what it keeps, and what it has in the end.
use Rattle.std.proofs.Common.{◌≡◌, ℕ, ◌+◌, ◌-◌, ◌≤◌, ◌<◌, Bool, true, false, ◌||◌, List, [], ◌∷◌, ◌++◌, length, take, drop, get_or, All, Contains, refl, sym, ap, subst, ◌∙◌, ◌⊎◌, inl, inr, ⊎_elim, rules, arith, cond}
use Rattle.std.proofs.lemmas.Grind.{common_steps}
use Rattle.std.proofs.lemmas.List.{take_more, take_all, length-map, append-nil, append_assoc, take-append-drop, length-append, length-take-le}
use Rattle.std.proofs.Math.Seq.{get_or-append_seam}
use Rattle.std.proofs.lemmas.List.Folds.{list_any-append, list_any-from_Any}
use Rattle.std.proofs.lemmas.List.Elements.{All-weaker, All-contains}
use Rattle.std.proofs.lemmas.Map.Made.{length-le_from_is_member}
use Rattle.std.proofs.lemmas.Map.Views.{All-from_any}
use Rattle.std.proofs.lemmas.List.Sorted.{list_any-IsPermutation}
use Rattle.std.proofs.lemmas.List.Filters.{dedup_is}
use Rattle.std.proofs.lemmas.List.Kept.{IsStrictlySortedBy-dedup}
use Rattle.std.specs.List.{IsDistinct, dedup, dedup_from, flat_map}
use Rattle.std.specs.List.Retain.{IsFiltered, DiffersFromLast}
use Rattle.std.specs.List.Sorted.{IsPermutation, IsSorted, IsStrictlySortedBy}
use Rattle.ut_logic.specs.declared.node.Node.{Node}
use Rattle.ut_logic.specs.declared.facts.Fact.{Fact}
use Rattle.ut_logic.specs.Node.{node_eq, node_cmp, node_total}
use Rattle.model_slice.specs.Closed.{IsLeastClosed}
use Rattle.model_slice.specs.Named.{names_of, nodes_of, AreKnown}
use Rattle.model_slice.specs.Found.{has, added}
use Rattle.model_slice.proofs.AddedLaws.{laws, has-added, distinct_added, length_le-added, take-added, added-append, added_grows}
use Rattle.model_slice.proofs.TestLaws.{HasAll, IsClosedTest, has-contains, contains-has, all_have, have_all, closed_test}

-- those before `at` have all that they name
pub record Progress (facts : List Fact) (from found : List Node) (at : ℕ) : Type 0 where
  pub in_range : at ≤ length found
  pub distinct : IsDistinct node_eq found
  pub roots : HasAll (has found) from
  pub done : (n m : Node) → has (take at found) n ≡ true → has (names_of facts n) m ≡ true → has found m ≡ true
  pub least : (q : Node → Bool) → HasAll q from → IsClosedTest facts q → HasAll q found
  pub known : HasAll (has (nodes_of facts)) found

either : (a b : Bool) → (a || b) ≡ true → (a ≡ true) ⊎ (b ≡ true)
either true b h = inl refl
either false b h = inr h

left : (a b : Bool) → a ≡ true → (a || b) ≡ true
left a b h = grind (arith, common_steps)

right : (a b : Bool) → b ≡ true → (a || b) ≡ true
right true b h = refl
right false b h = h

pub names_alike : (facts : List Fact) (a b : Node) → node_eq a b ≡ true → names_of facts a ≡ names_of facts b
names_alike [] a b h = refl
names_alike (f ∷ fs) a b h = grind (arith, common_steps, laws.congr a b f.node h, laws.symm f.node a, laws.symm f.node b, names_alike fs a b h)

pub start : (facts : List Fact) (from : List Node) → AreKnown facts from → Progress facts from (added [] from) 0
unfolding IsDistinct
start facts from k = record {
  in_range = omega arith;
  distinct = distinct_added [] from tt;
  roots = λ n h. has-added [] from n ∙ h;
  done = λ n m h g. search rules;
  least = λ q r c n h. r n (sym (has-added [] from n) ∙ h);
  known = λ n h. have_all (nodes_of facts) from k.rooted n (sym (has-added [] from n) ∙ h);
}

pub smaller : (facts : List Fact) (from found : List Node) (at : ℕ) → Progress facts from found at → at < length found → length facts - length found < length facts - at
smaller facts from found at p h = omega (arith, length-le_from_is_member laws found (nodes_of facts) p.distinct p.known, length-map (facts) (λ (f : Fact). f.node))

has_at : (xs : List Node) (k : ℕ) (n : Node) → k < length xs → get_or xs k n ≡ n → has xs n ≡ true
has_at xs k n h e = list_any-from_Any (node_eq n) xs (k, n, h, e, laws.refl n)

module _ (facts : List Fact) (from found : List Node) (at : ℕ) (k : AreKnown facts from) (p : Progress facts from found at) (h : at < length found) (n : Node) (e : (d : Node) → get_or found at d ≡ n) where
  abbrev more : List Node
  more = names_of facts n

  abbrev next : List Node
  next = added found more

  in_next : (x : Node) → has next x ≡ true → (has found x ≡ true) ⊎ (has more x ≡ true)
  in_next x g = either (has found x) (has more x) (sym (has-added found more x) ∙ g)

  old : (x : Node) → has found x ≡ true → has next x ≡ true
  old x g = has-added found more x ∙ left (has found x) (has more x) g

  new : (x : Node) → has more x ≡ true → has next x ≡ true
  new x g = has-added found more x ∙ right (has found x) (has more x) g

  in_front : (x : Node) → has (take (at + 1) next) x ≡ true → (has (take at found) x ≡ true) ⊎ (node_eq x n ≡ true)
  in_front x g = either (has (take at found) x) (node_eq x n) (sym same ∙ g)
    where
      same : has (take (at + 1) next) x ≡ (has (take at found) x || node_eq x n)
      same = rw (take-added found more (at + 1) (omega arith), take_more found at n h, e n) (list_any-append (node_eq x) (take at found) (n ∷ []) ∙ grind (arith, common_steps))

  pub step : Progress facts from next (at + 1)
  step = record {
    in_range = omega (arith, length_le-added found more);
    distinct = distinct_added found more p.distinct;
    roots = λ x g. old x (p.roots x g);
    done = λ x m g i. ⊎_elim (λ a. old m (p.done x m a i)) (λ b. new m (ap (λ ns. has ns m) (sym (names_alike facts x n b)) ∙ i)) (in_front x g);
    least = λ q r c x g. ⊎_elim (p.least q r c x) (c n x (p.least q r c n (has_at found at n h (e n)))) (in_next x g);
    known = λ x g. ⊎_elim (p.known x) (have_all (nodes_of facts) (names_of facts n) (k.named n) x) (in_next x g);
  }

-- the same of several that follow one another
steps : (facts : List Fact) (from : List Node) → AreKnown facts from → (ns front rest found : List Node) → found ≡ front ++ (ns ++ rest)
    → Progress facts from found (length front) → Progress facts from (added found (flat_map (names_of facts) ns)) (length front + length ns)
steps facts from k [] front rest found e p = subst (Progress facts from found) (omega arith) p
steps facts from k (n ∷ ns) front rest found e p =
    let more = names_of facts n in
    let next = added found more in
    let grown = added_grows found more in
    let one = step facts from found (length front) k p (omega (arith, ap length e, length-append front (n ∷ (ns ++ rest)))) n
    (λ d. ap (λ (l : List Node). get_or l (length front) d) e ∙ get_or-append_seam front n (ns ++ rest) d) in
    let before = front ++ n ∷ [] in
    let after = rest ++ grown.0 in
    let same : next ≡ before ++ (ns ++ after) = grown.1 ∙ (ap (λ (l : List Node). l ++ grown.0) e ∙ (append_assoc front (n ∷ (ns ++ rest)) grown.0
    ∙ (ap (λ (l : List Node). front ++ n ∷ l) (append_assoc ns rest grown.0) ∙ sym (append_assoc front (n ∷ []) (ns ++ after))))) in
    let all = steps facts from k ns before after next same (subst (Progress facts from next) (omega (arith, length-append front (n ∷ []))) one) in
    subst (λ (l : List Node). Progress facts from l (length front + length (n ∷ ns))) (sym (added-append found more (flat_map (names_of facts) ns)))
    (subst (Progress facts from (added next (flat_map (names_of facts) ns))) (omega (arith, length-append front (n ∷ []))) all)

-- and of all that are found so far
pub level : (facts : List Fact) (from found : List Node) (at : ℕ) → AreKnown facts from → Progress facts from found at
    → Progress facts from (added found (flat_map (names_of facts) (drop at found))) (length found)
level facts from found at k p =
    let front = take at found in
    let after = drop at found in
    let whole : front ++ after ≡ found = take-append-drop at found in
    let long : at ≡ length front = sym (length-take-le at found p.in_range) in
    let same : found ≡ front ++ (after ++ []) = sym (ap (λ (l : List Node). front ++ l) (append-nil after) ∙ whole) in
    let count : length front + length after ≡ length found = omega (arith, ap (λ (l : List Node). length l) whole, length-append front after) in
    subst (Progress facts from (added found (flat_map (names_of facts) after))) count
    (steps facts from k after front [] found same (subst (Progress facts from found) long p))

-- ---- in order

has-dedup_from : (n : Node) (ns : List Node) (q : Node) → has (dedup_from node_eq n ns) q ≡ (node_eq q n || has ns q)
has-dedup_from n [] q = refl
has-dedup_from n (m ∷ ns) q = by (node_eq m n) refl (has-dedup_from n ns q) (has-dedup_from m ns q)
  where
    by : (b : Bool) → node_eq m n ≡ b → has (dedup_from node_eq n ns) q ≡ (node_eq q n || has ns q) → has (dedup_from node_eq m ns) q ≡ (node_eq q m || has ns q)
        → has (cond b (dedup_from node_eq n ns) (n ∷ dedup_from node_eq m ns)) q ≡ (node_eq q n || (node_eq q m || has ns q))
    by true h f g = f ∙ grind (arith, common_steps, laws.congr m n q h, laws.symm q m, laws.symm q n)
    by false h f g = ap (λ b. node_eq q n || b) g

has-dedup : (ns : List Node) (q : Node) → has (dedup node_eq ns) q ≡ has ns q
has-dedup [] q = refl
has-dedup (n ∷ ns) q = has-dedup_from n ns q

pub same_members : (xs ys zs : List Node) → IsPermutation xs ys → IsFiltered (DiffersFromLast node_eq) [] ys zs → (q : Node) → has zs q ≡ has xs q
same_members xs ys zs p f q = ap (λ ns. has ns q) (dedup_is node_eq ys zs f) ∙ (has-dedup ys q ∙ sym (list_any-IsPermutation (node_eq q) xs ys p))

pub strictly : (ys zs : List Node) → IsSorted node_cmp ys → IsFiltered (DiffersFromLast node_eq) [] ys zs → IsStrictlySortedBy node_cmp zs
strictly ys zs s f = subst (IsStrictlySortedBy node_cmp) (sym (dedup_is node_eq ys zs f)) (IsStrictlySortedBy-dedup node_total (λ x y. refl) ys s)

-- where all that was found is done, it is the least closed list
pub finished : (facts : List Fact) (from found : List Node) (at : ℕ) → Progress facts from found at → length found ≤ at → IsLeastClosed (names_of facts) from found
finished facts from found at p h = record {
  rooted = all_have found from p.roots;
  closed = All-from_any laws (λ n. All (Contains found) (names_of facts n)) found (λ n g. all_have found (names_of facts n)
      (λ m i. p.done n m (subst (λ ns. has ns n ≡ true) (sym (take_all at found h)) g) i));
  least = λ other r c. all_have other found (p.least (has other) (have_all other from r) (closed_test facts other c));
}

-- the same nodes in another order are as well
pub same_set : (facts : List Fact) (from xs ys : List Node) → ((q : Node) → has ys q ≡ has xs q) → IsLeastClosed (names_of facts) from xs → IsLeastClosed (names_of facts) from ys
same_set facts from xs ys same l = record {
  rooted = All-weaker (Contains xs) (Contains ys) over from l.rooted;
  closed = All-from_any laws (λ n. All (Contains ys) (names_of facts n)) ys (λ n g. All-weaker (Contains xs) (Contains ys) over (names_of facts n)
      (All-contains (λ m. All (Contains xs) (names_of facts m)) xs n l.closed (back n g)));
  least = λ other r c. All-from_any laws (Contains other) ys (λ n g. All-contains (Contains other) xs n (l.least other r c) (back n g));
}
  where
    over : (n : Node) → Contains xs n → Contains ys n
    over n c = has-contains ys n (same n ∙ contains-has xs n c)

    back : (n : Node) → has ys n ≡ true → Contains xs n
    back n g = has-contains xs n (sym (same n) ∙ g)

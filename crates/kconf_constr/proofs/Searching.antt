-- What a binary search in names that rise says of the number of a name.
use Rattle.std.proofs.Common.{◌≡◌, ℕ, ◌+◌, ◌<◌, ◌≤◌, Bool, true, false, List, [], length, get_or, sym, ap, ◌∙◌, cond, Some, None, arith, inl, inr, position, nat_lt}
use Rattle.std.proofs.lemmas.Bool.{cases_lt, lt-ltb, le-ltb, false≢true}
use Rattle.std.proofs.lemmas.List.Sums.{position_or_len_is}
use Rattle.std.proofs.lemmas.Map.Keys.{Less-from_sorted}
use Rattle.std.specs.List.Sorted.{IsNonDecreasingBy, IsPartitionPoint, IsSorted}
use Rattle.std.specs.Ordering.{is_eq, is_lt, ordering_index, ordering_reverse}
use Rattle.std.proofs.lemmas.List.Sorted.{searchable_from_sorted}
use Rattle.std.specs.declared.cmp.Ordering.TheVariants.{Less, Equal, Greater}
use Rattle.ut_text.specs.Text.{text_eq, text_eq-exact, text_cmp, text_ties, text_total}
use Rattle.kconf_tree.proofs.Small.{is_off}
use Rattle.kconf_constr.specs.Scope.{IsRising, number_among}

-- the first place that passes
position_is : {A : Type 0} (p : A → Bool) (xs : List A) (i : ℕ) (d : A) → i < length xs → p (get_or xs i d) ≡ true → ((j : ℕ) → j < i → p (get_or xs j d) ≡ false) → position p xs ≡ Some i
position_is p xs i d h t f = ap (λ n. cond (nat_lt n (length xs)) (Some n) None) (position_or_len_is p xs i d (omega arith) f (λ k. t)) ∙ ap (λ b. cond b (Some i) None) (lt-ltb i (length xs) h)

position_none : {A : Type 0} (p : A → Bool) (xs : List A) (d : A) → ((j : ℕ) → j < length xs → p (get_or xs j d) ≡ false) → position p xs ≡ None
position_none p xs d f = ap (λ n. cond (nat_lt n (length xs)) (Some n) None) (position_or_len_is p xs (length xs) d (omega arith) f (λ k. absurd (omega arith))) ∙ ap (λ b. cond b (Some (length xs)) None) (le-ltb (length xs) (length xs) (omega arith))

-- equal by the order is equal
equal_is : (xs ys : List ℕ) → text_cmp xs ys ≡ Equal → text_eq xs ys ≡ true
equal_is xs ys h = text_ties xs ys ∙ ap is_eq h

less_is_not : (xs ys : List ℕ) → text_cmp xs ys ≡ Less → text_eq xs ys ≡ false
less_is_not xs ys h = text_ties xs ys ∙ ap is_eq h

more_is_not : (xs ys : List ℕ) → text_cmp xs ys ≡ Greater → text_eq xs ys ≡ false
more_is_not xs ys h = text_ties xs ys ∙ ap is_eq h

-- of names that rise, an earlier one differs from a later one
apart : (names : List (List ℕ)) (i j : ℕ) (d name : List ℕ) → IsRising names → j < i → i < length names → text_eq (get_or names i d) name ≡ true → text_eq (get_or names j d) name ≡ false
apart names i j d name up k h t = is_off _ (λ s. false≢true (sym (less_is_not (get_or names j d) (get_or names i d) (Less-from_sorted text_cmp names j i d up k h))
    ∙ ap (λ x. text_eq (get_or names j d) x) (text_eq-exact (get_or names i d) name t) ∙ s))

-- the place that is found is the number
pub found_at : (names : List (List ℕ)) (name : List ℕ) (i : ℕ) (d : List ℕ) → IsRising names → i < length names → text_cmp (get_or names i d) name ≡ Equal → Some i ≡ number_among names name
found_at names name i d up h e = let t = equal_is (get_or names i d) name e in
    sym (position_is (λ n. text_eq n name) names i d h t (λ j k. apart names i j d name up k h t))

-- nothing equal stands between what is less and what is greater
pub not_found : (names : List (List ℕ)) (name : List ℕ) (i : ℕ) (d : List ℕ) → ((k : ℕ) → k < i → text_cmp (get_or names k d) name ≡ Less) → ((k : ℕ) → i ≤ k → k < length names → text_cmp (get_or names k d) name ≡ Greater) → None ≡ number_among names name
not_found names name i d low high = sym (position_none (λ n. text_eq n name) names d (λ j h. elim (cases_lt j i) [
  | inl k ↦ less_is_not (get_or names j d) name (low j k)
  | inr k ↦ more_is_not (get_or names j d) name (high j k h)
]))

-- names that rise are in order
rising_sorted : (names : List (List ℕ)) → IsRising names → IsSorted text_cmp names
rising_sorted names up k d low high = ap is_lt (text_total.antisymm (get_or names (k + 1) d) (get_or names k d) ∙ ap ordering_reverse (Less-from_sorted text_cmp names k (k + 1) d up (omega arith) high))

-- what the search answers is the number
pub missed : (names : List (List ℕ)) (name : List ℕ) (i : ℕ) → IsRising names → (IsNonDecreasingBy (λ y. ordering_index (text_cmp y name)) names → IsPartitionPoint (λ y. text_cmp y name ≡ Less) (λ y. text_cmp y name ≡ Greater) names i) → None ≡ number_among names name
missed names name i up point = let at = point (searchable_from_sorted text_total (λ y. y) names name (rising_sorted names up)) in
    not_found names name i [] (λ k low. at.0 k [] (omega arith) low) (λ k low high. at.1 k [] low high)

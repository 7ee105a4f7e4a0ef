-- A name of a rising list has its place as its number.
use Rattle.std.proofs.Common.{◌≡◌, ℕ, ◌<◌, Bool, true, false, List, [], length, get_or, sym, ap, ◌∙◌, cond, Some, None, arith, position, nat_lt}
use Rattle.std.proofs.lemmas.Bool.{lt-ltb, false≢true}
use Rattle.std.proofs.lemmas.List.Sums.{position_or_len_is}
use Rattle.std.proofs.lemmas.Map.Keys.{Less-from_sorted}
use Rattle.std.specs.Ordering.{is_eq}
use Rattle.std.specs.declared.cmp.Ordering.TheVariants.{Less}
use Rattle.ut_text.specs.Text.{text_eq, text_eq-exact, text_cmp, text_equiv, text_ties}
use Rattle.kconf_tree.proofs.Small.{is_off}
use Rattle.kconf_constr.specs.Scope.{IsRising, number_among}

-- the first place that passes
position_is : {A : Type 0} (p : A → Bool) (xs : List A) (i : ℕ) (d : A) → i < length xs → p (get_or xs i d) ≡ true → ((j : ℕ) → j < i → p (get_or xs j d) ≡ false) → position p xs ≡ Some i
position_is p xs i d h t f = ap (λ n. cond (nat_lt n (length xs)) (Some n) None) (position_or_len_is p xs i d (omega arith) f (λ k. t)) ∙ ap (λ b. cond b (Some i) None) (lt-ltb i (length xs) h)

less_is_not : (xs ys : List ℕ) → text_cmp xs ys ≡ Less → text_eq xs ys ≡ false
less_is_not xs ys h = text_ties xs ys ∙ ap is_eq h

-- an earlier name differs from a later one
apart : (names : List (List ℕ)) (i j : ℕ) (d name : List ℕ) → IsRising names → j < i → i < length names → text_eq (get_or names i d) name ≡ true → text_eq (get_or names j d) name ≡ false
apart names i j d name up k h t = is_off _ (λ s. false≢true (sym (less_is_not (get_or names j d) (get_or names i d) (Less-from_sorted text_cmp names j i d up k h))
    ∙ ap (λ x. text_eq (get_or names j d) x) (text_eq-exact (get_or names i d) name t) ∙ s))

pub own_number : (names : List (List ℕ)) (k : ℕ) → IsRising names → k < length names → number_among names (get_or names k []) ≡ Some k
own_number names k up lt = let t = text_equiv.refl (get_or names k []) in
    position_is (λ n. text_eq n (get_or names k [])) names k [] lt t (λ j l. apart names k j [] (get_or names k []) up l lt t)

-- Sorting a clause and dropping what repeats leaves its literals in order, unless it has both signs of a variable.
use mathlib.Core.Bool.{beq}
use Rattle.std.proofs.Common.{◌≡◌, ℕ, zero, suc, ◌+◌, ◌<◌, Bool, true, false, not, ◌||◌, ◌&&◌, cond, List, [], ◌∷◌, ◌++◌, length, get_or, take, filter, refl, sym, ap, subst, ◌∙◌, ◌⊎◌, inl, inr, arith, eqb}
use Rattle.std.proofs.lemmas.Grind.{common_steps}
use Rattle.std.proofs.lemmas.Bool.{false≢true, eqb-true, cases_lt}
use Rattle.std.proofs.lemmas.Bool.Decides.{nat_tests}
use Rattle.std.proofs.lemmas.List.{get_or_default, take_more, append-nil, append_assoc}
use Rattle.std.proofs.lemmas.List.Folds.{Any-from_list_any, list_any-from_Any, list_any_at}
use Rattle.std.proofs.lemmas.List.Filters.{dedup_is, All-dedup}
use Rattle.std.proofs.lemmas.List.Sorted.{All-permutation}
use Rattle.std.proofs.lemmas.List.Elements.{filter-append, AllZip-push}
use Rattle.std.proofs.lemmas.List.Kept.{IsStrictlySortedBy-dedup}
use Rattle.std.proofs.lemmas.Map.Keys.{sorted_tail}
use Rattle.std.proofs.lemmas.Map.Views.{All-after_first}
use Rattle.std.proofs.lemmas.Cmp.{nat_cmp_total, on_total, then_total}
use Rattle.std.specs.Cmp.{IsTotalOrder, bool_cmp_total}
use Rattle.std.specs.declared.cmp.Ordering.{Ordering}
use Rattle.std.specs.declared.cmp.Ordering.TheVariants.{Less, Equal, Greater}
use Rattle.std.specs.Ordering.{nat_cmp, bool_cmp, ordering_then, then_cmp, on, is_eq, eq_by_cmp}
use Rattle.std.specs.List.{list_any, AllZip}
use Rattle.std.specs.List.Retain.{IsFiltered, DiffersFromLast}
use Rattle.std.specs.List.Sorted.{IsPermutation, IsSorted, IsStrictlySortedBy}
use Rattle.ut_logic.specs.declared.literals.Lit.{Lit}
use Rattle.ut_logic.specs.Keys.{same_number}
use Rattle.ut_logic.specs.Clauses.{negated, CountFromOne, IsOrdered}
use Rattle.clausify.specs.Tidy.{is_lit, has_lit, has_both_signs, IsTidy, AreTidy, AddsTidy}
use Rattle.clausify.proofs.Kept.{any_kept}

-- by variables, and the negative literal first
abbrev pub lit_cmp : Lit → Lit → Ordering
lit_cmp = then_cmp (on (λ l. l.var) nat_cmp) (on (λ l. l.positive) bool_cmp)

lit_total : IsTotalOrder lit_cmp
lit_total = then_total (on_total (λ l. l.var) nat_cmp_total) (on_total (λ l. l.positive) bool_cmp_total)

and_first : (a b : Bool) → (a && b) ≡ true → a ≡ true
and_first true b h = refl
and_first false b h = h

and_second : (a b : Bool) → (a && b) ≡ true → b ≡ true
and_second true b h = h
and_second false b h = absurd (false≢true h)

sign_same : (p q : Bool) → beq p q ≡ true → p ≡ q
sign_same true true h = refl
sign_same true false h = absurd (false≢true h)
sign_same false true h = absurd (false≢true h)
sign_same false false h = refl

-- literals that test as one are one
pub lit_same : (a b : Lit) → is_lit a b ≡ true → a ≡ b
lit_same a b h = λ i. record {
  var = eqb-true a.var b.var (and_first (eqb a.var b.var) (beq a.positive b.positive) h) i;
  positive = sign_same a.positive b.positive (and_second (eqb a.var b.var) (beq a.positive b.positive) h) i;
}

pub lit_itself : (l : Lit) → is_lit l l ≡ true
lit_itself l = itself l.var l.positive
  where
    itself : (x : ℕ) (p : Bool) → (eqb x x && beq p p) ≡ true
    itself x true = grind (arith, nat_tests, common_steps)
    itself x false = grind (arith, nat_tests, common_steps)

ties : (a b : Lit) → is_lit a b ≡ eq_by_cmp lit_cmp a b
ties a b = by (nat_cmp a.var b.var) refl a.positive b.positive
  where
    by : (r : Ordering) → nat_cmp a.var b.var ≡ r → (p q : Bool) → (eqb a.var b.var && beq p q) ≡ is_eq (ordering_then (nat_cmp a.var b.var) (bool_cmp p q))
    by r e true true = grind (arith, nat_tests, common_steps)
    by r e true false = grind (arith, nat_tests, common_steps)
    by r e false true = grind (arith, nat_tests, common_steps)
    by r e false false = grind (arith, nat_tests, common_steps)

-- a literal that comes later has a later variable, or is the negation
less_cases : (a b : Lit) → lit_cmp a b ≡ Less → (a.var < b.var) ⊎ (b ≡ negated a)
less_cases a b h = by (nat_cmp a.var b.var) refl h
  where
    signs : (p q : Bool) → bool_cmp p q ≡ Less → q ≡ not p
    signs true true e = absurd (false≢true (sym (ap is_eq e)))
    signs true false e = refl
    signs false true e = refl
    signs false false e = absurd (false≢true (sym (ap is_eq e)))

    by : (r : Ordering) → nat_cmp a.var b.var ≡ r → ordering_then r (bool_cmp a.positive b.positive) ≡ Less → (a.var < b.var) ⊎ (b ≡ negated a)
    by Less e g = inl (below a.var b.var e)
      where
        below : (m n : ℕ) → nat_cmp m n ≡ Less → m < n
        below m n e = grind (arith, nat_tests)
    by Equal e g = inr (λ i. record { var = sym (same_number a.var b.var (ap is_eq e)) i; positive = signs a.positive b.positive g i })
    by Greater e g = absurd (cc)

module _ (c : List Lit) (apart : has_both_signs c ≡ false) where
  not_both : (l : Lit) → has_lit c l ≡ true → has_lit c (negated l) ≡ true → ⊥
  not_both l h g = let a = Any-from_list_any (is_lit l) c h in
      false≢true (sym apart ∙ list_any-from_Any (λ m. has_lit c (negated m)) c (a.0, a.1, a.2, a.3, subst (λ m. has_lit c (negated m) ≡ true) (lit_same l a.1 a.4) g))

  ordered_from : (zs : List Lit) → ((z : Lit) → has_lit zs z ≡ true → has_lit c z ≡ true) → IsStrictlySortedBy lit_cmp zs → IsOrdered zs
  ordered_from [] sub s = λ i j d p q. absurd (omega (arith, q))
  ordered_from (z ∷ zs) sub s = by (ordered_from zs (λ y h. sub y (after y h)) (sorted_tail lit_cmp z zs s))
    where
      second : (a b : Bool) → b ≡ true → (a || b) ≡ true
      second true b h = refl
      second false b h = h

      after : (y : Lit) → has_lit zs y ≡ true → has_lit (z ∷ zs) y ≡ true
      after y h = second (is_lit y z) (has_lit zs y) h

      later : (k : ℕ) (d : Lit) → k < length zs → z.var < (get_or zs k d).var
      later k d h = elim (less_cases z (get_or zs k d) (All-after_first lit_cmp z zs s k d h)) [
        | inl lt ↦ lt
        | inr e ↦ absurd (not_both z (sub z (ap (λ b. b || has_lit zs z) (lit_itself z)))
            (subst (λ y. has_lit c y ≡ true) e (sub (get_or zs k d) (after (get_or zs k d) (list_any_at (is_lit (get_or zs k d)) zs k d h (lit_itself (get_or zs k d)))))))
      ]

      by : IsOrdered zs → IsOrdered (z ∷ zs)
      by o zero zero d p q = absurd (omega (arith, p))
      by o zero (suc j) d p q = later j d (omega (arith, q))
      by o (suc i) zero d p q = absurd (omega (arith, p))
      by o (suc i) (suc j) d p q = o i j d (omega (arith, p)) (omega (arith, q))

-- a clause in order does not have both signs of a variable
pub not_both_in_order : (c : List Lit) → IsOrdered c → has_both_signs c ≡ false
not_both_in_order c o = by (has_both_signs c) refl
  where
    self_not : (p : Bool) → p ≡ not p → ⊥
    self_not true e = false≢true (sym e)
    self_not false e = false≢true e

    by : (b : Bool) → has_both_signs c ≡ b → b ≡ false
    by false e = refl
    by true e = let a = Any-from_list_any (λ l. has_lit c (negated l)) c e in
        let x : Lit = a.1 in
        let b = Any-from_list_any (is_lit (negated x)) c a.4 in
        let y : Lit = b.1 in
        let same : negated x ≡ y = lit_same (negated x) y b.4 in
        let var : x.var ≡ y.var = ap (λ l. l.var) same in
        let at_x : get_or c a.0 x ≡ x = a.3 in
        let at_y : get_or c b.0 x ≡ y = get_or_default c b.0 x y b.2 ∙ b.3 in
        elim (cases_lt a.0 b.0) [
          | inl before ↦ absurd (omega (arith, subst (λ l. x.var < l.var) at_y (subst (λ l. l.var < (get_or c b.0 x).var) at_x (o a.0 b.0 x before b.2)), var))
          | inr after ↦ elim (cases_lt b.0 a.0) [
            | inl before ↦ absurd (omega (arith, subst (λ l. y.var < l.var) at_x (subst (λ l. l.var < (get_or c a.0 x).var) at_y (o b.0 a.0 x before a.2)), var))
            | inr both ↦ let here : a.0 ≡ b.0 = omega (arith, after, both) in
                absurd (self_not x.positive (ap (λ l. l.positive) (sym at_x ∙ (ap (λ j. get_or c j x) here ∙ at_y)) ∙ sym (ap (λ l. l.positive) same)))
          ]
        ]

module _ (lits sorted kept : List Lit) (moved : IsPermutation lits sorted) (filtered : IsFiltered (DiffersFromLast is_lit) [] sorted kept) where
  same_lits : (l : Lit) → has_lit kept l ≡ has_lit lits l
  same_lits l = any_kept is_lit (is_lit l) (λ x y h. ap (is_lit l) (lit_same x y h)) lits sorted kept moved filtered

  same_both : has_both_signs kept ≡ has_both_signs lits
  same_both = ap (λ (f : Lit → Bool). list_any (λ l. f (negated l)) kept) (λ i l. same_lits l i)
      ∙ any_kept is_lit (λ l. has_lit lits (negated l)) (λ x y h. ap (λ l. has_lit lits (negated l)) (lit_same x y h)) lits sorted kept moved filtered

  -- where what is left is in order, it is tidy
  pub tidy_kept : IsOrdered kept → (has_both_signs lits ≡ false) × IsTidy lits kept
  tidy_kept o = (sym same_both ∙ not_both_in_order kept o, record { ordered = o; same = same_lits })

  -- what has no variable 0 has none in order
  pub counted_kept : CountFromOne lits → CountFromOne kept
  counted_kept h = subst CountFromOne (sym (dedup_is is_lit sorted kept filtered))
      (All-dedup is_lit (λ (l : Lit). 0 < l.var) sorted (All-permutation (λ (l : Lit). 0 < l.var) lits sorted moved h))

  -- where it is not, both signs of a variable are there
  pub both_kept : IsSorted lit_cmp sorted → ¬ IsOrdered kept → has_both_signs lits ≡ true
  both_kept up n = sym same_both ∙ by (has_both_signs kept) refl
    where
      strictly : IsStrictlySortedBy lit_cmp kept
      strictly = subst (IsStrictlySortedBy lit_cmp) (sym (dedup_is is_lit sorted kept filtered)) (IsStrictlySortedBy-dedup lit_total ties sorted up)

      by : (b : Bool) → has_both_signs kept ≡ b → b ≡ true
      by true e = refl
      by false e = absurd (n (ordered_from kept e kept (λ z h. h) strictly))

-- one more clause is written
one_tidy : (ws cs ds : List (List Lit)) (x : List Lit) → AreTidy ws cs → AddsTidy x cs ds → AreTidy (ws ++ x ∷ []) ds
one_tidy ws cs ds x t a = elim a [ inl both ↦ left both | inr one ↦ right one ]
  where
    kept : List (List Lit)
    kept = filter (λ ls. not (has_both_signs ls)) ws

    left : (has_both_signs x ≡ true) × (ds ≡ cs) → AreTidy (ws ++ x ∷ []) ds
    left both =
        let e : filter (λ ls. not (has_both_signs ls)) (ws ++ x ∷ []) ≡ kept =
        filter-append (λ ls. not (has_both_signs ls)) ws (x ∷ []) ∙ (ap (λ b. kept ++ cond (not b) (x ∷ []) []) both.0 ∙ append-nil kept) in
        subst (λ zs. AllZip IsTidy zs ds) (sym e) (subst (λ es. AllZip IsTidy kept es) (sym both.1) t)

    right : (c : List Lit) × (has_both_signs x ≡ false) × IsTidy x c × (ds ≡ cs ++ c ∷ []) → AreTidy (ws ++ x ∷ []) ds
    right one =
        let e : filter (λ ls. not (has_both_signs ls)) (ws ++ x ∷ []) ≡ kept ++ x ∷ [] =
        filter-append (λ ls. not (has_both_signs ls)) ws (x ∷ []) ∙ ap (λ b. kept ++ cond (not b) (x ∷ []) []) one.1 in
        subst (λ zs. AllZip IsTidy zs ds) (sym e) (subst (λ es. AllZip IsTidy (kept ++ x ∷ []) es) (sym one.3) (AllZip-push IsTidy kept cs x one.0 t one.2))

pub tidy_more : (front written cs ds : List (List Lit)) (k : ℕ) (d : List Lit) → k < length written → AreTidy (front ++ take k written) cs → AddsTidy (get_or written k d) cs ds → AreTidy (front ++ take (k + 1) written) ds
tidy_more front written cs ds k d h t a = let x = get_or written k d in
    subst (λ ws. AreTidy ws ds) (append_assoc front (take k written) (x ∷ []) ∙ ap (λ (ws : List (List Lit)). front ++ ws) (sym (take_more written k d h))) (one_tidy (front ++ take k written) cs ds x t a)

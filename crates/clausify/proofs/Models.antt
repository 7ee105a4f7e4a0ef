-- Tidy clauses have the models of the clauses as they were written, and their variables.
use Rattle.std.proofs.Common.{◌≡◌, ℕ, ◌<◌, Bool, true, false, not, ◌||◌, cond, List, [], ◌∷◌, length, get_or, filter, refl, sym, ap, subst, ◌∙◌}
use Rattle.std.proofs.lemmas.Bool.{false≢true}
use Rattle.std.proofs.lemmas.List.Elements.{All-from_recursion, recursion_from_All, Contains-get_or}
use Rattle.std.proofs.lemmas.List.Folds.{Any-from_list_any, list_any-from_Any, list_any_at}
use Rattle.std.specs.Cmp.{both_ways}
use Rattle.std.specs.List.{list_any, AllZip, AllByRecursion}
use Rattle.ut_logic.specs.declared.literals.Lit.{Lit}
use Rattle.ut_logic.specs.Truth.{any_true}
use Rattle.ut_logic.specs.Clauses.{negated, value_of, Satisfies, IsModel, IsWithin, AreWithin}
use Rattle.clausify.specs.Tidy.{is_lit, has_lit, has_both_signs, IsTidy, AreTidy}
use Rattle.clausify.proofs.TidyLaws.{lit_same, lit_itself}
use Rattle.clausify.proofs.Meets.{Meets, LitWithin, LitsWithin, Within, lits_true}
use Rattle.clausify.proofs.Define.{value_of-negated}

-- ---- a clause

truth_any : (w : ℕ → Bool) (c : List Lit) → any_true (lits_true w c) ≡ list_any (value_of w) c
truth_any w [] = refl
truth_any w (l ∷ c) = ap (λ b. value_of w l || b) (truth_any w c)

half : (c r : List Lit) (f : Lit → Bool) → ((l : Lit) → has_lit c l ≡ true → has_lit r l ≡ true) → list_any f c ≡ true → list_any f r ≡ true
half c r f sub h = let a = Any-from_list_any f c h in
    let b = Any-from_list_any (is_lit a.1) r (sub a.1 (list_any-from_Any (is_lit a.1) c (a.0, a.1, a.2, a.3, lit_itself a.1))) in
    list_any-from_Any f r (b.0, b.1, b.2, b.3, subst (λ l. f l ≡ true) (lit_same a.1 b.1 b.4) a.4)

-- lists of the same literals pass a test alike
same_any : (c r : List Lit) (f : Lit → Bool) → ((l : Lit) → has_lit c l ≡ has_lit r l) → list_any f c ≡ list_any f r
same_any c r f same = both_ways (list_any f c) (list_any f r) (half c r f (λ l h. sym (same l) ∙ h)) (half r c f (λ l h. same l ∙ h))

tidy_truth : (w : ℕ → Bool) (r c : List Lit) → IsTidy r c → any_true (lits_true w c) ≡ any_true (lits_true w r)
tidy_truth w r c t = truth_any w c ∙ (same_any c r (value_of w) t.same ∙ sym (truth_any w r))

-- a clause with both signs of a variable is always true
both_true : (w : ℕ → Bool) (r : List Lit) → has_both_signs r ≡ true → any_true (lits_true w r) ≡ true
both_true w r h = truth_any w r ∙ (let a = Any-from_list_any (λ l. has_lit r (negated l)) r h in by a.1 a.0 a.2 a.3 a.4 (value_of w a.1) refl)
  where
    by : (l : Lit) (k : ℕ) → k < length r → get_or r k l ≡ l → has_lit r (negated l) ≡ true → (b : Bool) → value_of w l ≡ b → list_any (value_of w) r ≡ true
    by l k lt e n true v = list_any-from_Any (value_of w) r (k, l, lt, e, v)
    by l k lt e n false v = let b = Any-from_list_any (is_lit (negated l)) r n in
        list_any-from_Any (value_of w) r (b.0, b.1, b.2, b.3, subst (λ m. value_of w m ≡ true) (lit_same (negated l) b.1 b.4) (value_of-negated w l ∙ ap not v))

-- ---- all clauses

pub tidy_meets : (w : ℕ → Bool) (written cs : List (List Lit)) → AreTidy written cs → Meets w written → Meets w cs
tidy_meets w [] [] t m = tt
tidy_meets w [] (c ∷ cs) t m = absurd t
tidy_meets w (r ∷ rs) cs t m = by (has_both_signs r) cs t (λ ds u. tidy_meets w rs ds u m.1)
  where
    by : (b : Bool) (ds : List (List Lit)) → AllZip IsTidy (cond (not b) (r ∷ filter (λ ls. not (has_both_signs ls)) rs) (filter (λ ls. not (has_both_signs ls)) rs)) ds → ((es : List (List Lit)) → AreTidy rs es → Meets w es) → Meets w ds
    by true ds u f = f ds u
    by false [] u f = absurd u
    by false (d ∷ ds) u f = (tidy_truth w r d u.0 ∙ m.0, f ds u.1)

pub meets_tidy : (w : ℕ → Bool) (written cs : List (List Lit)) → AreTidy written cs → Meets w cs → Meets w written
meets_tidy w [] cs t m = tt
meets_tidy w (r ∷ rs) cs t m = by (has_both_signs r) refl cs t m (λ ds u k. meets_tidy w rs ds u k)
  where
    by : (b : Bool) → has_both_signs r ≡ b → (ds : List (List Lit)) → AllZip IsTidy (cond (not b) (r ∷ filter (λ ls. not (has_both_signs ls)) rs) (filter (λ ls. not (has_both_signs ls)) rs)) ds → Meets w ds
        → ((es : List (List Lit)) → AreTidy rs es → Meets w es → Meets w rs) → Meets w (r ∷ rs)
    by true e ds u k f = (both_true w r e, f ds u k)
    by false e [] u k f = absurd u
    by false e (d ∷ ds) u k f = (sym (tidy_truth w r d u.0) ∙ k.0, f ds u.1 k.1)

-- ---- the words of the base crate

satisfied : (w : ℕ → Bool) (c : List Lit) → any_true (lits_true w c) ≡ true → Satisfies w c
satisfied w c h = let a = Any-from_list_any (value_of w) c (sym (truth_any w c) ∙ h) in (a.1, (a.0, a.2, a.3), a.4)

satisfying : (w : ℕ → Bool) (c : List Lit) → Satisfies w c → any_true (lits_true w c) ≡ true
satisfying w c s = truth_any w c ∙ list_any-from_Any (value_of w) c (s.1.0, s.0, s.1.1, s.1.2, s.2)

meets_each : (w : ℕ → Bool) (cs : List (List Lit)) → Meets w cs → AllByRecursion (Satisfies w) cs
meets_each w [] m = tt
meets_each w (c ∷ cs) m = (satisfied w c m.0, meets_each w cs m.1)

each_meets : (w : ℕ → Bool) (cs : List (List Lit)) → AllByRecursion (Satisfies w) cs → Meets w cs
each_meets w [] m = tt
each_meets w (c ∷ cs) m = (satisfying w c m.0, each_meets w cs m.1)

pub model_from_meets : (w : ℕ → Bool) (cs : List (List Lit)) → Meets w cs → IsModel w cs
model_from_meets w cs m c k = subst (Satisfies w) k.2 (All-from_recursion (Satisfies w) cs (meets_each w cs m) k.0 c k.1)

pub meets_from_model : (w : ℕ → Bool) (cs : List (List Lit)) → IsModel w cs → Meets w cs
meets_from_model w cs m = each_meets w cs (recursion_from_All (Satisfies w) cs (λ k d h. m (get_or cs k d) (Contains-get_or cs k d h)))

-- ---- variables

lit_in : (n : ℕ) (r : List Lit) (l : Lit) → LitsWithin n r → has_lit r l ≡ true → LitWithin n l
lit_in n [] l h g = absurd (false≢true g)
lit_in n (k ∷ r) l h g = by (is_lit l k) refl g (lit_in n r l h.1)
  where
    by : (b : Bool) → is_lit l k ≡ b → (b || has_lit r l) ≡ true → (has_lit r l ≡ true → LitWithin n l) → LitWithin n l
    by true e i f = subst (LitWithin n) (sym (lit_same l k e)) h.0
    by false e i f = f i

tidy_within : (n : ℕ) (r c : List Lit) → IsTidy r c → LitsWithin n r → IsWithin n c
tidy_within n r c t h k d lt = lit_in n r (get_or c k d) h (sym (t.same (get_or c k d)) ∙ list_any_at (is_lit (get_or c k d)) c k d lt (lit_itself (get_or c k d)))

each_within : (n : ℕ) (written cs : List (List Lit)) → AreTidy written cs → Within n written → AllByRecursion (IsWithin n) cs
each_within n [] [] t h = tt
each_within n [] (c ∷ cs) t h = absurd t
each_within n (r ∷ rs) cs t h = by (has_both_signs r) cs t (λ ds u. each_within n rs ds u h.1)
  where
    by : (b : Bool) (ds : List (List Lit)) → AllZip IsTidy (cond (not b) (r ∷ filter (λ ls. not (has_both_signs ls)) rs) (filter (λ ls. not (has_both_signs ls)) rs)) ds
        → ((es : List (List Lit)) → AreTidy rs es → AllByRecursion (IsWithin n) es) → AllByRecursion (IsWithin n) ds
    by true ds u f = f ds u
    by false [] u f = absurd u
    by false (d ∷ ds) u f = (tidy_within n r d u.0 h.0, f ds u.1)

pub tidy_are_within : (n : ℕ) (written cs : List (List Lit)) → AreTidy written cs → Within n written → AreWithin n cs
tidy_are_within n written cs t h = All-from_recursion (IsWithin n) cs (each_within n written cs t h)

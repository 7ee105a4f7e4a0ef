-- Names that are gathered in a set.
use Rattle.std.proofs.Common.{◌≡◌, ◌↔◌, ℕ, Bool, true, false, ◌||◌, cond, List, [], ◌∷◌, ◌++◌, Contains, refl, sym, ◌∙◌}
use Rattle.std.proofs.lemmas.Map.Lookups.{exact_bytes}
use Rattle.std.proofs.lemmas.Map.Views.{btree_set_contains_iff, Contains-from_any, list_any-from_Contains, tells_apart}
use Rattle.std.proofs.lemmas.Cmp.{eq_by_cmp_equiv}
use Rattle.std.specs.List.{list_any}
use Rattle.std.specs.Ordering.{eq_by_cmp}
use Rattle.std.specs.BTreeSet.{BTreeSet, contains}
use Rattle.ut_text.specs.Text.{text_cmp, text_total}

pub any_push : {A : Type 0} (p : A → Bool) (xs : List A) (x : A) → list_any p (xs ++ x ∷ []) ≡ cond (p x) true (list_any p xs)
any_push p [] x = one (p x)
  where
    one : (d : Bool) → (d || false) ≡ cond d true false
    one true = refl
    one false = refl
any_push p (y ∷ ys) x = by (p y) (p x) (any_push p ys x)
  where
    by : (b d : Bool) → list_any p (ys ++ x ∷ []) ≡ cond d true (list_any p ys) → (b || list_any p (ys ++ x ∷ [])) ≡ cond d true (b || list_any p ys)
    by true true h = refl
    by true false h = refl
    by false d h = h

-- a set that tests like a list has its members
pub same_members : (s : BTreeSet (List ℕ)) (names : List (List ℕ)) → ((name : List ℕ) → contains text_cmp s name ≡ list_any (eq_by_cmp text_cmp name) names) → (name : List ℕ) → Contains s.keys name ↔ Contains names name
same_members s names h name = let iff = btree_set_contains_iff text_total exact_bytes s name in
    (λ c. Contains-from_any (tells_apart exact_bytes) name names (sym (h name) ∙ iff.1 c), λ c. iff.0 (h name ∙ list_any-from_Contains (eq_by_cmp_equiv text_total) name names c))

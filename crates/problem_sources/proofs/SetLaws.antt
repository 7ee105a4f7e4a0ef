-- Names are added to a set one list after another.
use Rattle.std.proofs.Common.{◌≡◌, ◌↔◌, ◌<◌, ◌+◌, ℕ, length, get_or, take, map, Bool, true, false, ◌||◌, cond, List, [], ◌∷◌, ◌++◌, Contains, refl, ap, sym, ◌∙◌}
use Rattle.std.proofs.lemmas.Cmp.{eq_by_cmp_equiv}
use Rattle.std.proofs.lemmas.Map.Lookups.{exact_bytes}
use Rattle.std.proofs.lemmas.Map.Views.{btree_set_contains_iff, Contains-from_any, list_any-from_Contains, tells_apart}
use Rattle.std.specs.List.{list_any, flat_map}
use Rattle.std.proofs.lemmas.List.{take_more, append-nil, map-append}
use Rattle.std.proofs.lemmas.List.Concat.{flat_map-append}
use Rattle.std.proofs.lemmas.List.Folds.{list_any-append}
use Rattle.std.specs.Ordering.{eq_by_cmp}
use Rattle.std.specs.BTreeSet.{BTreeSet, contains}
use Rattle.ut_text.specs.Bytes.{Bytes}
use Rattle.ut_text.specs.Text.{text_cmp, text_total}
use Rattle.problem_sources.specs.Undeclared.{is_named, AddsNames}

pub adds_nothing : (s : BTreeSet Bytes) → AddsNames s s []
adds_nothing s name = refl

swapped : (a b c : Bool) → (b || (a || c)) ≡ ((a || b) || c)
swapped true true c = refl
swapped true false c = refl
swapped false true c = refl
swapped false false c = refl

pub adds_then : (a b c : BTreeSet Bytes) (xs ys : List Bytes) → AddsNames a b xs → AddsNames b c ys → AddsNames a c (xs ++ ys)
adds_then a b c xs ys one more name = more name ∙ (ap (λ (x : Bool). is_named ys name || x) (one name)
    ∙ (swapped (is_named xs name) (is_named ys name) (contains text_cmp a name) ∙ ap (λ (x : Bool). x || contains text_cmp a name) (sym (list_any-append (eq_by_cmp text_cmp name) xs ys))))

-- a set that had no name has those of the list
pub adds_all : (old new : BTreeSet Bytes) (names : List Bytes) → ((name : Bytes) → contains text_cmp old name ≡ false) → AddsNames old new names → (name : Bytes) → contains text_cmp new name ≡ is_named names name
adds_all old new names none adds name = adds name ∙ (ap (λ (x : Bool). is_named names name || x) (none name) ∙ alone (is_named names name))
  where
    alone : (b : Bool) → (b || false) ≡ b
    alone true = refl
    alone false = refl

-- ---- one more name, and the members of a set

pub any_push : {A : Type 0} (p : A → Bool) (xs : List A) (x : A) → list_any p (xs ++ x ∷ []) ≡ cond (p x) true (list_any p xs)
any_push p [] x = one (p x)
  where
    one : (d : Bool) → (d || false) ≡ cond d true false
    one true = refl
    one false = refl
any_push p (y ∷ ys) x = by (p y) (p x) (any_push p ys x)
  where
    by : (b d : Bool) → list_any p (ys ++ x ∷ []) ≡ cond d true (list_any p ys) → (b || list_any p (ys ++ x ∷ [])) ≡ cond d true (b || list_any p ys)
    by true true h = refl
    by true false h = refl
    by false d h = h

-- a set that tests like a list has its members
pub same_members : (s : BTreeSet Bytes) (names : List Bytes) → ((name : Bytes) → contains text_cmp s name ≡ is_named names name) → (name : Bytes) → Contains s.keys name ↔ Contains names name
same_members s names h name = let iff = btree_set_contains_iff text_total exact_bytes s name in
    (λ c. Contains-from_any (tells_apart exact_bytes) name names (sym (h name) ∙ iff.1 c), λ c. iff.0 (h name ∙ list_any-from_Contains (eq_by_cmp_equiv text_total) name names c))

-- what the first ones give, and then the next one
pub named_more : {A B : Type 0} (f : B → List Bytes) (g : A → B) (xs : List A) (i : ℕ) (d : A) → i < length xs → d ≡ get_or xs i d
    → flat_map f (map g (take (i + 1) xs)) ≡ flat_map f (map g (take i xs)) ++ f (g d)
named_more f g xs i d h e = ap (λ ys. flat_map f (map g ys)) (take_more xs i d h)
    ∙ (ap (flat_map f) (map-append g (take i xs) (get_or xs i d ∷ [])) ∙ (flat_map-append f (map g (take i xs)) (g (get_or xs i d) ∷ [])
    ∙ ap (λ ys. flat_map f (map g (take i xs)) ++ ys) (append-nil (f (g (get_or xs i d))) ∙ ap (λ x. f (g x)) (sym e))))

-- ---- a list in place of another with its members

iff_same : (a b : Bool) → (a ≡ true → b ≡ true) → (b ≡ true → a ≡ true) → a ≡ b
iff_same true b f g = sym (f refl)
iff_same false true f g = g refl
iff_same false false f g = refl

same_named : (xs ys : List Bytes) (name : Bytes) → (Contains xs name ↔ Contains ys name) → is_named xs name ≡ is_named ys name
same_named xs ys name iff = iff_same (is_named xs name) (is_named ys name)
    (λ h. list_any-from_Contains (eq_by_cmp_equiv text_total) name ys (iff.0 (Contains-from_any (tells_apart exact_bytes) name xs h)))
    (λ h. list_any-from_Contains (eq_by_cmp_equiv text_total) name xs (iff.1 (Contains-from_any (tells_apart exact_bytes) name ys h)))

pub instead : (old new : BTreeSet Bytes) (xs ys : List Bytes) → ((name : Bytes) → Contains xs name ↔ Contains ys name) → AddsNames old new xs → AddsNames old new ys
instead old new xs ys iff adds name = adds name ∙ ap (λ (x : Bool). x || contains text_cmp old name) (same_named xs ys name (iff name))

-- The ways in which lists are said to have members.
use Rattle.std.proofs.Common.{◌≡◌, zero, suc, Bool, true, false, ◌||◌, List, [], ◌∷◌, refl, ap, ◌∙◌, inl, inr, arith}
use Rattle.std.specs.List.{list_any, Contains, dedup}
use Rattle.std.proofs.lemmas.Bool.{false≢true}
use Rattle.std.proofs.lemmas.Cmp.{eq_by_cmp_equiv}
use Rattle.std.proofs.lemmas.List.Kept.{Contains-dedup, Contains-from_dedup}
use Rattle.ut_logic.specs.Assign.{is_in}
use Rattle.ut_logic.specs.Item.{item_eq, item_total}
use Rattle.ut_logic.specs.ItemIdentity.{item_eq-Decides}
use Rattle.ut_logic.specs.declared.item.Item.{Item}
use Rattle.report_lines.proofs.RisingLists.{In}

in_contains : {A : Type 0} (xs : List A) (x : A) → Contains xs x → In xs x
in_contains [] x h = absurd (omega (arith, h.1))
in_contains (y ∷ ys) x (zero, l, e) = inl e
in_contains (y ∷ ys) x (suc k, l, e) = inr (in_contains ys x (k, omega arith, e))

contains_in : {A : Type 0} (xs : List A) (x : A) → In xs x → Contains xs x
contains_in [] x h = absurd h
contains_in (y ∷ ys) x (inl e) = (0, omega arith, e)
contains_in (y ∷ ys) x (inr h) = let r = contains_in ys x h in (suc r.0, omega (arith, r.1), r.2)

-- by a test that finds x alone
module _ {A : Type 0} (p : A → Bool) (x : A) (finds : (y : A) → p y ≡ true → y ≡ x) (itself : p x ≡ true) where
  pub in_any : (xs : List A) → list_any p xs ≡ true → In xs x
  in_any [] h = absurd (false≢true h)
  in_any (y ∷ ys) h = by (p y) refl h (in_any ys)
    where
      by : (b : Bool) → p y ≡ b → (b || list_any p ys) ≡ true → (list_any p ys ≡ true → In ys x) → In (y ∷ ys) x
      by true e g more = inl (finds y e)
      by false e g more = inr (more g)

  pub any_in : (xs : List A) → In xs x → list_any p xs ≡ true
  any_in [] h = absurd h
  any_in (y ∷ ys) (inl e) = ap (λ b. b || list_any p ys) (ap p e ∙ itself)
  any_in (y ∷ ys) (inr h) = by (p y) (any_in ys h)
    where
      by : (b : Bool) → list_any p ys ≡ true → (b || list_any p ys) ≡ true
      by true g = refl
      by false g = g

-- ---- items

pub item_in : (items : List Item) (i : Item) → is_in items i ≡ true → In items i
item_in items i = in_any (λ j. item_eq j i) i (λ j e. (item_eq-Decides j i).0 e) ((item_eq-Decides i i).1 refl) items

pub in_item : (items : List Item) (i : Item) → In items i → is_in items i ≡ true
in_item items i = any_in (λ j. item_eq j i) i (λ j e. (item_eq-Decides j i).0 e) ((item_eq-Decides i i).1 refl) items

pub in_dedup : (items : List Item) (i : Item) → In items i → In (dedup item_eq items) i
in_dedup items i h = in_contains (dedup item_eq items) i (Contains-dedup (eq_by_cmp_equiv item_total) (λ x y e. (item_eq-Decides x y).0 e) items i (contains_in items i h))

pub dedup_in : (items : List Item) (i : Item) → In (dedup item_eq items) i → In items i
dedup_in items i h = in_contains items i (Contains-from_dedup item_eq items i (contains_in (dedup item_eq items) i h))

-- What a set of items has after more are put in, and that its items are distinct.
use Rattle.std.proofs.Common.{◌≡◌, ℕ, ◌+◌, ◌<◌, Bool, true, false, ◌||◌, cond, List, [], ◌∷◌, ◌++◌, length, get_or, take, refl, sym, ap, ◌∙◌, arith}
use Rattle.std.proofs.lemmas.Grind.{common_steps}
use Rattle.std.proofs.lemmas.List.Folds.{list_any-append, list_any_more}
use Rattle.std.specs.List.{list_any}
use Rattle.std.specs.Cmp.{IsEquivalence}
use Rattle.std.proofs.lemmas.Cmp.{eq_by_cmp_equiv}
use Rattle.indexmap.specs.IndexSet.{insert_key}
use Rattle.ut_logic.specs.declared.item.Item.{Item}
use Rattle.ut_logic.specs.Assign.{is_in}
use Rattle.ut_logic.specs.Item.{item_eq, item_total}

laws : IsEquivalence item_eq
laws = eq_by_cmp_equiv item_total

-- the other way round
pub is_in-any : (items : List Item) (i : Item) → list_any (item_eq i) items ≡ is_in items i
is_in-any [] i = refl
is_in-any (x ∷ items) i = grind (arith, common_steps, laws.symm i x, is_in-any items i)

in_alike : (items : List Item) (a b : Item) → item_eq a b ≡ true → is_in items a ≡ is_in items b
in_alike [] a b h = refl
in_alike (x ∷ items) a b h = grind (arith, common_steps, laws.congr a b x h, laws.symm x a, laws.symm x b, in_alike items a b h)

pub is_in-insert_key : (items : List Item) (k i : Item) → is_in (insert_key item_eq items k) i ≡ (is_in items i || item_eq k i)
is_in-insert_key items k i = by (list_any (item_eq k) items) refl
  where
    by : (b : Bool) → list_any (item_eq k) items ≡ b → is_in (cond b items (items ++ k ∷ [])) i ≡ (is_in items i || item_eq k i)
    by true h = alike (item_eq k i) refl
      where
        alike : (e : Bool) → item_eq k i ≡ e → is_in items i ≡ (is_in items i || e)
        alike true g = sym (in_alike items k i g) ∙ ((sym (is_in-any items k) ∙ h) ∙ sym (second (is_in items i)))
          where
            second : (b : Bool) → (b || true) ≡ true
            second true = refl
            second false = refl
        alike false g = grind (arith, common_steps)
    by false h = list_any-append (λ x. item_eq x i) items (k ∷ []) ∙ grind (arith, common_steps)

-- one more of the list is put in
pub more_in : (keys items : List Item) (k : ℕ) (d : Item) (i : Item) → k < length items → is_in keys i ≡ is_in (take k items) i → is_in (insert_key item_eq keys (get_or items k d)) i ≡ is_in (take (k + 1) items) i
more_in keys items k d i h e = is_in-insert_key keys (get_or items k d) i ∙ (ap (λ b. b || item_eq (get_or items k d) i) e ∙ sym (list_any_more (λ x. item_eq x i) items k d h))

-- The truths that the values of variables give the items of a question: false off the items.
use Rattle.std.proofs.Common.{◌≡◌, ℕ, ◌<◌, Bool, true, false, ◌&&◌, List, length, get_or, refl, ap, sym, ◌∙◌}
use Rattle.std.proofs.lemmas.List.Elements.{Contains-get_or}
use Rattle.ut_logic.specs.declared.item.Item.{Item}
use Rattle.ut_logic.specs.Assign.{is_in}
use Rattle.ut_logic.specs.Item.{item_eq}
use Rattle.ut_logic.specs.ItemIdentity.{item_eq-Decides}
use Rattle.ut_logic.specs.Variables.{AreInOrder}
use Rattle.ut_logic.proofs.ItemLemmas.{distinct_in_order}
use Rattle.clausify.specs.ClauseForm.{var_of}
use Rattle.clausify.proofs.NumberedLaws.{placed}
use Rattle.ut_case.specs.Laws.{Reads}
use Rattle.case_laws.proofs.Basics.{and_first}
use Rattle.case_laws.proofs.OneList.{any_in, in_contains}

abbrev pub value_of : List Item → (ℕ → Bool) → Item → Bool
value_of items w i = is_in items i && w (var_of items i)

pub value_on : (items : List Item) (w : ℕ → Bool) (i : Item) → value_of items w i ≡ true → is_in items i ≡ true
value_on items w i h = and_first (is_in items i) (w (var_of items i)) h

pub value_off : (items : List Item) (w : ℕ → Bool) (i : Item) → is_in items i ≡ false → value_of items w i ≡ false
value_off items w i h = ap (λ (b : Bool). b && w (var_of items i)) h

there : (items : List Item) (k : ℕ) (d : Item) → k < length items → is_in items (get_or items k d) ≡ true
there items k d lt = let i = get_or items k d in
    any_in (λ x. item_eq x i) i (λ x e. (item_eq-Decides x i).0 e) ((item_eq-Decides i i).1 refl) items (in_contains items i (Contains-get_or items k d lt))

-- each variable of an item has its truth
pub value_reads : (items : List Item) (w : ℕ → Bool) → AreInOrder items → Reads items w (value_of items w)
value_reads items w ordered k d lt = ap w (placed items k d (get_or items k d) (distinct_in_order items ordered) lt refl)
    ∙ sym (ap (λ (b : Bool). b && w (var_of items (get_or items k d))) (there items k d lt))

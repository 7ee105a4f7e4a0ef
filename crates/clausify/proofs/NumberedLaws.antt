-- The variable of an item is one more than its place among distinct items.
use Rattle.std.proofs.Common.{◌≡◌, ℕ, ◌+◌, ◌<◌, ◌≤◌, Bool, true, false, cond, None, Some, List, length, get_or, position, refl, sym, ap, ◌∙◌, arith, nat_lt}
use Rattle.std.proofs.lemmas.Bool.Decides.{nat_tests}
use Rattle.std.proofs.lemmas.Grind.{common_steps}
use Rattle.std.proofs.lemmas.List.Sums.{position_or_len_is}
use Rattle.std.specs.List.{position_or_len}
use Rattle.ut_logic.specs.declared.item.Item.{Item}
use Rattle.ut_logic.specs.Item.{item_eq}
use Rattle.ut_logic.specs.ItemIdentity.{item_eq-Decides}
use Rattle.ut_logic.specs.Variables.{AreDistinct}
use Rattle.clausify.specs.ClauseForm.{var_at, var_of}

pub placed : (xs : List Item) (k : ℕ) (d x : Item) → AreDistinct xs → k < length xs → get_or xs k d ≡ x → k + 1 ≡ var_of xs x
placed xs k d x distinct h e = sym (ap var_at found)
  where
    differs : (j : ℕ) → j < k → item_eq x (get_or xs j d) ≡ false
    differs j lt = by (item_eq x (get_or xs j d)) refl
      where
        by : (b : Bool) → item_eq x (get_or xs j d) ≡ b → b ≡ false
        by false g = refl
        by true g = absurd (distinct j k d lt h (sym ((item_eq-Decides x (get_or xs j d)).0 g) ∙ sym e))

    first : position_or_len (item_eq x) xs ≡ k
    first = position_or_len_is (item_eq x) xs k d (omega (arith, h)) differs (λ g. ap (item_eq x) e ∙ (item_eq-Decides x x).1 refl)

    below : nat_lt k (length xs) ≡ true
    below = grind (arith, nat_tests, common_steps, h)

    found : position (item_eq x) xs ≡ Some k
    found = ap (λ j. cond (nat_lt j (length xs)) (Some j) None) first ∙ ap (λ b. cond b (Some k) None) below

-- a test of order by the order
pub not_below : (k n : ℕ) → n ≤ k → nat_lt k n ≡ false
not_below k n h = grind (arith, nat_tests, common_steps, h)

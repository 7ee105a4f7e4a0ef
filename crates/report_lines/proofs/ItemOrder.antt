-- Which items of sources stand before which others.
use Rattle.std.proofs.Common.{◌≡◌, ℕ, ◌<◌, sym, ap, ◌∙◌}
use Rattle.std.specs.declared.cmp.Ordering.{Ordering}
use Rattle.std.specs.declared.cmp.Ordering.TheVariants.{Less, Equal}
use Rattle.std.specs.Ordering.{nat_cmp, ordering_then, is_eq}
use Rattle.std.specs.Cmp.{nat_cmp_is}
use Rattle.std.proofs.lemmas.Bool.{false≢true}
use Rattle.std.proofs.lemmas.Cmp.{eq_by_cmp_equiv}
use Rattle.ut_logic.specs.declared.item.Item.{Item}
use Rattle.ut_logic.specs.Item.{item_cmp, item_key, item_total}

less : (a b : ℕ) → a < b → nat_cmp a b ≡ Less
less a b l = sym (nat_cmp_is a b Less l)

equal : (a b : ℕ) → a ≡ b → nat_cmp a b ≡ Equal
equal a b e = sym (nat_cmp_is a b Equal e)

first_less : (o p : Ordering) → o ≡ Less → ordering_then o p ≡ Less
first_less o p e = ap (λ x. ordering_then x p) e

second_less : (o p : Ordering) → o ≡ Equal → p ≡ Less → ordering_then o p ≡ Less
second_less o p e f = ap (λ x. ordering_then x p) e ∙ f

-- what is compared behind the first number, and behind the second
behind_first : Item → Item → Ordering
behind_first x y = ordering_then (nat_cmp (item_key x).second (item_key y).second) (ordering_then (nat_cmp (item_key x).third (item_key y).third) (nat_cmp (item_key x).part (item_key y).part))

behind_second : Item → Item → Ordering
behind_second x y = ordering_then (nat_cmp (item_key x).third (item_key y).third) (nat_cmp (item_key x).part (item_key y).part)

pub kind_before : (x y : Item) → (item_key x).kind < (item_key y).kind → item_cmp x y ≡ Less
unfolding behind_first
kind_before x y l = first_less (nat_cmp (item_key x).kind (item_key y).kind) (ordering_then (nat_cmp (item_key x).first (item_key y).first) (behind_first x y)) (less (item_key x).kind (item_key y).kind l)

pub first_before : (x y : Item) → (item_key x).kind ≡ (item_key y).kind → (item_key x).first < (item_key y).first → item_cmp x y ≡ Less
unfolding behind_first
first_before x y e l =
    second_less (nat_cmp (item_key x).kind (item_key y).kind) (ordering_then (nat_cmp (item_key x).first (item_key y).first) (behind_first x y))
    (equal (item_key x).kind (item_key y).kind e)
    (first_less (nat_cmp (item_key x).first (item_key y).first) (behind_first x y) (less (item_key x).first (item_key y).first l))

pub second_before : (x y : Item) → (item_key x).kind ≡ (item_key y).kind → (item_key x).first ≡ (item_key y).first → (item_key x).second < (item_key y).second → item_cmp x y ≡ Less
unfolding behind_second
second_before x y e f l =
    second_less (nat_cmp (item_key x).kind (item_key y).kind) (ordering_then (nat_cmp (item_key x).first (item_key y).first) (ordering_then (nat_cmp (item_key x).second (item_key y).second) (behind_second x y)))
    (equal (item_key x).kind (item_key y).kind e)
    (second_less (nat_cmp (item_key x).first (item_key y).first) (ordering_then (nat_cmp (item_key x).second (item_key y).second) (behind_second x y))
    (equal (item_key x).first (item_key y).first f)
    (first_less (nat_cmp (item_key x).second (item_key y).second) (behind_second x y) (less (item_key x).second (item_key y).second l)))

-- no item stands before itself
pub never_before : (x : Item) → item_cmp x x ≡ Less → ⊥
never_before x h = false≢true (sym (ap is_eq h) ∙ (eq_by_cmp_equiv item_total).refl x)

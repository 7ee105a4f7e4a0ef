-- The least and the greatest of a list with one more.
use Rattle.std.proofs.Common.{◌≡◌, ℕ, ◌+◌, ◌<◌, ◌≤◌, List, [], ◌∷◌, ◌++◌, length, take, get_or, map, min, max, arith}
use Rattle.std.proofs.lemmas.List.{map_more}
use Rattle.ut_logic.specs.declared.trit.Trit.{Trit}
use Rattle.ut_logic.specs.declared.trit.Trit.TheVariants.{N, M, Y}
use Rattle.ut_logic.specs.Trit.{rank}
use Rattle.kconf_tree.specs.Value.{HasValues, least, greatest}
use Rattle.complete_conf.specs.declared.config.Config.{Config}
use Rattle.complete_conf.specs.Config.{by_lists}

pub rank_small : (x : Trit) → rank x ≤ 2
rank_small N = omega arith
rank_small M = omega arith
rank_small Y = omega arith

-- a `Config` has values of its type alone
pub values_small : (c : Config) → HasValues (by_lists c)
values_small c k = rank_small (get_or c.values k N)

least_push : (xs : List ℕ) (y : ℕ) → y ≤ 2 → least (xs ++ y ∷ []) ≡ min (least xs) y
least_push [] y h = omega arith
least_push (x ∷ xs) y h = omega (arith, least_push xs y h)

greatest_push : (xs : List ℕ) (y : ℕ) → greatest (xs ++ y ∷ []) ≡ max (greatest xs) y
greatest_push [] y = omega arith
greatest_push (x ∷ xs) y = omega (arith, greatest_push xs y)

pub least_more : {E : Type 0} (f : E → ℕ) (xs : List E) (i : ℕ) (d : E) (m r : ℕ) (y : Trit) → i < length xs → m ≡ least (map f (take i xs)) → rank y ≡ f (get_or xs i d) → r ≡ min m (rank y) → r ≡ least (map f (take (i + 1) xs))
least_more f xs i d m r y h a b e = rw (map_more f xs i d h, ← b, least_push (map f (take i xs)) (rank y) (rank_small y), ← a) e

pub greatest_more : {E : Type 0} (f : E → ℕ) (xs : List E) (i : ℕ) (d : E) (m r : ℕ) (y : Trit) → i < length xs → m ≡ greatest (map f (take i xs)) → rank y ≡ f (get_or xs i d) → r ≡ max m (rank y) → r ≡ greatest (map f (take (i + 1) xs))
greatest_more f xs i d m r y h a b e = rw (map_more f xs i d h, ← b, greatest_push (map f (take i xs)) (rank y), ← a) e

-- Walks, cycles, and orders, which exclude each other.
use Rattle.std.proofs.Common.{◌≡◌, ℕ, ◌+◌, ◌-◌, ◌<◌, ◌≤◌, List, [], ◌∷◌, ◌++◌, length, get_or, take, refl, sym, ap, ◌∙◌, subst, arith}
use Rattle.std.specs.Prelude.{Contains}
use Rattle.std.proofs.lemmas.List.{get_or_default, get_or-take, length-take-le}
use Rattle.std.proofs.lemmas.List.Elements.{All-contains}
use Rattle.node_order.specs.Graph.{refers_of, Refers, IsWalk, IsCycle, IsInOrder, IsOrder}
use Rattle.node_order.specs.Walks.{WalksTo}
use Rattle.node_order.proofs.GraphLaws.{from_below}

-- a walk ends at its last node
pub to_last : (g : List (List ℕ)) (a : ℕ) (nodes : List ℕ) → IsWalk g (a ∷ nodes) → WalksTo g a nodes (get_or (a ∷ nodes) (length nodes) 0)
to_last g a [] w = refl
to_last g a (b ∷ nodes) w = (w.0, to_last g b nodes w.1)

pub is_walk : (g : List (List ℕ)) (a : ℕ) (nodes : List ℕ) (b : ℕ) → WalksTo g a nodes b → IsWalk g (a ∷ nodes)
is_walk g a [] b w = (tt, tt)
is_walk g a (c ∷ nodes) b w = (w.0, is_walk g c nodes b w.1)

pub last_is : (g : List (List ℕ)) (a : ℕ) (nodes : List ℕ) (b : ℕ) → WalksTo g a nodes b → get_or (a ∷ nodes) (length nodes) 0 ≡ b
last_is g a [] b w = w
last_is g a (c ∷ nodes) b w = last_is g c nodes b w.1

last_place : (a : ℕ) (nodes : List ℕ) → length (a ∷ nodes) - 1 ≡ length nodes
last_place a nodes = omega arith

-- a cycle is a walk from its first node to it
pub cycle_from_walk : (g : List (List ℕ)) (a : ℕ) (nodes : List ℕ) → 0 < length nodes → WalksTo g a nodes a → IsCycle g (a ∷ nodes)
cycle_from_walk g a nodes h w = record {
  some = omega (arith, h);
  walk = is_walk g a nodes a w;
  back = ap (λ (k : ℕ). get_or (a ∷ nodes) k 0) (last_place a nodes) ∙ last_is g a nodes a w;
}

pub walk_from_cycle : (g : List (List ℕ)) (a : ℕ) (nodes : List ℕ) → IsCycle g (a ∷ nodes) → WalksTo g a nodes a
walk_from_cycle g a nodes c = subst (λ (b : ℕ). WalksTo g a nodes b) (ap (λ (k : ℕ). get_or (a ∷ nodes) k 0) (sym (last_place a nodes)) ∙ c.back) (to_last g a nodes c.walk)

pub more_than_one : (g : List (List ℕ)) (a : ℕ) (nodes : List ℕ) → IsCycle g (a ∷ nodes) → 0 < length nodes
more_than_one g a nodes c = omega (arith, c.some)

pub no_empty_cycle : (g : List (List ℕ)) → IsCycle g [] → ⊥
no_empty_cycle g c = omega (arith, c.some)

-- one step more
pub walk_push : (g : List (List ℕ)) (a : ℕ) (nodes : List ℕ) (b c : ℕ) → WalksTo g a nodes b → Refers g b c → WalksTo g a (nodes ++ c ∷ []) c
walk_push g a [] b c w r = (subst (λ (n : ℕ). Refers g n c) (sym w) r, refl)
walk_push g a (d ∷ nodes) b c w r = (w.0, walk_push g d nodes b c w.1 r)

-- the nodes of a walk from a node of the graph with a step
pub walk_below : (g : List (List ℕ)) (a : ℕ) (nodes : List ℕ) (b : ℕ) → 0 < length nodes → WalksTo g a nodes b → a < length g
walk_below g a [] b h w = absurd (omega (arith, h))
walk_below g a (c ∷ nodes) b h w = from_below g a c w.0

-- ---- orders

-- a walk from a node of the order falls along it
falls : (g : List (List ℕ)) (order : List ℕ) → IsInOrder g order → (i a : ℕ) (nodes : List ℕ) (b : ℕ) → i < length order → get_or order i 0 ≡ a → WalksTo g a nodes b
    → (j : ℕ) × (j + length nodes ≤ i) × (get_or order j 0 ≡ b)
falls g order o i a [] b h e w = (i, omega arith, e ∙ w)
falls g order o i a (c ∷ nodes) b h e w =
    let at = All-contains (Contains (take i order)) (refers_of g (get_or order i 0)) c (o.after i h) (subst (λ (n : ℕ). Refers g n c) (sym e) w.0) in
    let low : at.0 < i = omega (arith, at.1, length-take-le i order (omega (arith, h))) in
    let here : get_or order at.0 0 ≡ c = get_or_default order at.0 0 c (omega (arith, low, h)) ∙ (sym (get_or-take i order at.0 c low) ∙ at.2) in
    let r = falls g order o at.0 c nodes b (omega (arith, low, h)) here w.1 in
    (r.0, omega (arith, r.1, low), r.2)

-- no node of the order lies on a cycle
pub none_on_cycle : (g : List (List ℕ)) (order : List ℕ) → IsInOrder g order → (a : ℕ) → Contains order a → (nodes : List ℕ) → 0 < length nodes → WalksTo g a nodes a → ⊥
none_on_cycle g order o a (i, h, e) nodes s w =
    let here : get_or order i 0 ≡ a = get_or_default order i 0 a h ∙ e in
    let r = falls g order o i a nodes a h here w in
    let low : r.0 < i = omega (arith, r.1, s) in
    let len : length (take i order) ≡ i = length-take-le i order (omega (arith, h)) in
    o.once i h (r.0, omega (arith, len, low), get_or-take i order r.0 _ low ∙ (get_or_default order r.0 _ 0 (omega (arith, low, h)) ∙ (r.2 ∙ sym here)))

-- where there is a cycle there is no order
pub no_order : (g : List (List ℕ)) (nodes order : List ℕ) → IsCycle g nodes → IsOrder g order → ⊥
no_order g [] order c o = no_empty_cycle g c
no_order g (a ∷ nodes) order c o =
    let w = walk_from_cycle g a nodes c in
    let s = more_than_one g a nodes c in
    none_on_cycle g order o.in_order a (o.all a (walk_below g a nodes a s w)) nodes s w

-- The nodes of a tree's order are its own.
use Rattle.std.proofs.Common.{◌≡◌, ℕ, zero, suc, ◌+◌, ◌<◌, ◌≤◌, ◌==◌, Bool, true, false, not, cond, Option, None, Some, List, [], ◌∷◌, length, map, get_or, refl, sym, subst, arith, inl, inr}
use Rattle.std.proofs.lemmas.Bool.{false≢true, cases_lt}
use Rattle.std.specs.List.{flat_map, range_with_len, All}
use Rattle.std.proofs.lemmas.List.Elements.{All-nil, All-cons, All-head, All-tail, All-append, All-map, All-get_or, All-weaker, All-filter}
use Rattle.ut_logic.specs.declared.node.Node.{Node}
use Rattle.ut_logic.specs.declared.node.Node.TheVariants.{Sym, Choice, Block, State}
use Rattle.ut_logic.specs.Node.{node_eq}
use Rattle.kconf_entries.specs.declared.entries.Entries.{Entries}
use Rattle.kconf_tree.specs.declared.shape.Choice.{Choice as OneChoice}
use Rattle.kconf_tree.specs.Shape.{Shape, symbol_at, choice_at, no_choice}
use Rattle.kconf_tree.specs.OrderedTree.{OrderedTree}
use Rattle.kconf_tree.specs.Built.{HaveChoices}
use Rattle.kconf_tree.specs.Gathered.{distinct, gathered}
use Rattle.kconf_tree.specs.References.{node_by, node_of}
use Rattle.kconf_tree.specs.Orders.{nodes_of, node_at, graph_of, with_members, empty_choices, IsOrder}
use Rattle.kconf_tree.proofs.Small.{or_left, or_right, number_self}
use Rattle.kconf_tree.proofs.GraphOrders.{length-graph}
use Rattle.kconf_tree.specs.WellMade.{is_among, IsWellMade, IsNodeOf, IsOrderedTree}
use Rattle.kconf_tree.proofs.MadeLaws.{made_here, member_within}

range_below : (a n m : ℕ) → a + n ≤ m → All (λ k. k < m) (range_with_len a n)
range_below a zero m l = All-nil (λ k. k < m)
range_below a (suc n) m l = All-cons (λ k. k < m) a (range_with_len (a + 1) n) (omega arith) (range_below (a + 1) n m (omega arith))

distinct_all : (P : Node → Type 0) (xs : List Node) → All P xs → All P (distinct node_eq xs)
distinct_all P [] h = All-nil P
distinct_all P (x ∷ xs) h = All-cons P x _ (All-head P x xs h) (All-filter (λ y. not (node_eq x y)) P (distinct node_eq xs) (distinct_all P xs (All-tail P x xs h)))

all_among : (P : ℕ → Type 0) (ms : List ℕ) → ((j : ℕ) → is_among ms j ≡ true → P j) → All P ms
all_among P [] h = All-nil P
all_among P (m ∷ ms) h = All-cons P m ms (h m (or_left (m == m) (is_among ms m) (number_self m))) (all_among P ms (λ j g. h j (or_right (m == j) (is_among ms j) g)))

all_flat : (P : Node → Type 0) (f : ℕ → List Node) (xs : List ℕ) → All (λ a. All P (f a)) xs → All P (flat_map f xs)
all_flat P f [] h = All-nil P
all_flat P f (x ∷ xs) h = All-append P (f x) (flat_map f xs) (All-head (λ a. All P (f a)) x xs h) (all_flat P f xs (All-tail (λ a. All P (f a)) x xs h))

no_choice_past : (cs : List OneChoice) (i : ℕ) → length cs ≤ i → get_or cs i no_choice ≡ no_choice
no_choice_past [] i l = refl
no_choice_past (c ∷ cs) zero l = absurd (omega arith)
no_choice_past (c ∷ cs) (suc i) l = no_choice_past cs i (omega arith)

module _ (t : Shape) where
  empties_within : (n : ℕ) (cs : List OneChoice) → n + length cs ≤ length t.choices → All (IsNodeOf t) (empty_choices n cs)
  empties_within n [] l = All-nil (IsNodeOf t)
  empties_within n (c ∷ cs) l = by (length c.members == 0) (empties_within (suc n) cs (omega arith))
    where
      by : (b : Bool) → All (IsNodeOf t) (empty_choices (suc n) cs) → All (IsNodeOf t) (cond b (Choice n ∷ empty_choices (suc n) cs) (empty_choices (suc n) cs))
      by true h = let here : n < length t.choices = omega arith in All-cons (IsNodeOf t) (Choice n) (empty_choices (suc n) cs) here h
      by false h = h

  module _ (made : IsWellMade t) where
    node_within : (k : ℕ) → k < length t.symbols → IsNodeOf t (node_of t k)
    node_within k l = by (symbol_at t k).member_of refl
      where
        there : (i : ℕ) → (symbol_at t k).member_of ≡ Some i → i < length t.choices
        there i e = elim (cases_lt i (length t.choices)) [
          | inl lt ↦ lt
          | inr ge ↦ absurd (false≢true (subst (λ (c : OneChoice). is_among c.members k ≡ true) (no_choice_past t.choices i ge) (made.listed i k e)))
        ]

        by : (o : Option ℕ) → (symbol_at t k).member_of ≡ o → IsNodeOf t (node_by k o)
        by None e = l
        by (Some i) e = there i e

    nodes_within : All (IsNodeOf t) (nodes_of t)
    nodes_within = distinct_all (IsNodeOf t) (map (node_of t) (range_with_len 0 (length t.symbols)))
        (All-map (IsNodeOf t) (node_of t) (range_with_len 0 (length t.symbols)) (All-weaker (λ k. k < length t.symbols) (λ k. IsNodeOf t (node_of t k)) node_within (range_with_len 0 (length t.symbols)) (range_below 0 (length t.symbols) (length t.symbols) (omega arith))))

    beside_within : (n : Node) → IsNodeOf t n → All (IsNodeOf t) (with_members t n)
    beside_within (Sym k) h = All-cons (IsNodeOf t) (Sym k) [] h (All-nil (IsNodeOf t))
    beside_within (Choice i) h = All-cons (IsNodeOf t) (Choice i) (map (λ k. Sym k) (choice_at t i).members) h (All-map (IsNodeOf t) (λ k. Sym k) (choice_at t i).members (all_among (λ k. k < length t.symbols) (choice_at t i).members (member_within t made i)))
    beside_within (Block f b) h = absurd h
    beside_within (State f x u) h = absurd h

    order_within : (order : List Node) → IsOrder t order → All (IsNodeOf t) order
    order_within order o = subst (λ (ns : List Node). All (IsNodeOf t) ns) (sym o.listed)
        (All-append (IsNodeOf t) (flat_map (λ k. with_members t (node_at t k)) o.numbers) (empty_choices 0 t.choices)
        (all_flat (IsNodeOf t) (λ k. with_members t (node_at t k)) o.numbers (All-weaker (λ a. a < length (graph_of t)) (λ a. All (IsNodeOf t) (with_members t (node_at t a))) (λ a l. beside_within (node_at t a) (All-get_or (IsNodeOf t) (nodes_of t) a (Sym 0) (subst (λ n. a < n) (length-graph t) l) nodes_within)) o.numbers o.orders.only))
        (empties_within 0 t.choices (omega arith)))

-- a tree of entries with its order is well made and ordered
pub ordered_here : (e : Entries) (t : OrderedTree) → HaveChoices e → t.shape ≡ gathered e → IsOrder t.shape t.order → IsOrderedTree t
ordered_here e t have whole ordered = let made : IsWellMade t.shape = subst IsWellMade (sym whole) (made_here e have) in
    record { made = made; ordered = ordered; within = order_within t.shape made t.order ordered }

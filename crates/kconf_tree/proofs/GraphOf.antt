-- The graph of a tree's nodes.
use Rattle.std.proofs.Common.{◌≡◌, ℕ, zero, suc, ◌+◌, ◌<◌, ◌≤◌, Bool, true, false, not, ◌||◌, cond, List, [], ◌∷◌, length, map, filter, All, refl, ap, sym, subst, ◌∙◌, arith, inl, inr, ◌⊎◌}
use Rattle.std.proofs.lemmas.Bool.{cases_lt}
use Rattle.std.proofs.lemmas.List.{length-map, get_or_past}
use Rattle.std.proofs.lemmas.List.Elements.{All-head, All-tail, All-map, All-weaker, All-get_or, All-nil, All-contains}
use Rattle.std.proofs.lemmas.Simd.{map-map}
use Rattle.std.proofs.lemmas.List.FromFn.{length-range_with_len, get_or-map-range_with_len}
use Rattle.std.specs.Cmp.{IsEquivalence, eq_by_cmp_equiv}
use Rattle.std.specs.List.{list_any, range_with_len}
use Rattle.ut_logic.specs.declared.node.Node.{Node}
use Rattle.ut_logic.specs.Node.{node_eq, node_total}
use Rattle.kconf_tree.specs.Shape.{Shape}
use Rattle.kconf_tree.specs.Gathered.{distinct}
use Rattle.kconf_tree.specs.References.{node_of, numbers_of, references_of}
use Rattle.kconf_tree.specs.Orders.{nodes_of, place_of, graph_of}
use Rattle.node_order.specs.Graph.{IsGraph, Refers, refers_of}
use Rattle.kconf_tree.specs.Limits.{max_symbols}
use Rattle.kconf_tree.specs.Links.{AreRowsBelow}
use Rattle.kconf_tree.specs.Numbering.{each_at, lists_of, place_among, places_among, rows_among, symbol_places}
use Rattle.kconf_tree.proofs.Places.{place_within, distinct_has}

node_laws : IsEquivalence node_eq
node_laws = eq_by_cmp_equiv node_total

-- ---- how many

length-filter : {A : Type 0} (p : A → Bool) (xs : List A) → length (filter p xs) ≤ length xs
length-filter p [] = omega arith
length-filter p (x ∷ xs) = by (p x) (length-filter p xs)
  where
    by : (b : Bool) → length (filter p xs) ≤ length xs → length (cond b (x ∷ filter p xs) (filter p xs)) ≤ suc (length xs)
    by true h = omega (arith, h)
    by false h = omega (arith, h)

length-distinct : {A : Type 0} (eq : A → A → Bool) (xs : List A) → length (distinct eq xs) ≤ length xs
length-distinct eq [] = omega arith
length-distinct eq (x ∷ xs) = omega (arith, length-filter (λ y. not (eq x y)) (distinct eq xs), length-distinct eq xs)

module _ (t : Shape) where
  pub length-nodes : length (nodes_of t) ≤ length t.symbols
  length-nodes = omega (arith, length-distinct node_eq (map (node_of t) (range_with_len 0 (length t.symbols))), length-map (range_with_len 0 (length t.symbols)) (node_of t), length-range_with_len 0 (length t.symbols))

  -- ---- places

  or_true : (b : Bool) → (b || true) ≡ true
  or_true true = refl
  or_true false = refl

  in_range : (a n i : ℕ) → i < n → list_any (node_eq (node_of t (a + i))) (map (node_of t) (range_with_len a n)) ≡ true
  in_range a zero i h = absurd (omega arith)
  in_range a (suc n) zero h = let e : a + 0 ≡ a = omega arith in ap (λ k. node_eq (node_of t k) (node_of t a) || list_any (node_eq (node_of t k)) (map (node_of t) (range_with_len (a + 1) n))) e
      ∙ ap (λ b. b || list_any (node_eq (node_of t a)) (map (node_of t) (range_with_len (a + 1) n))) (node_laws.refl (node_of t a))
  in_range a (suc n) (suc i) h = let e : a + suc i ≡ a + 1 + i = omega arith in
      ap (λ k. node_eq (node_of t k) (node_of t a) || list_any (node_eq (node_of t k)) (map (node_of t) (range_with_len (a + 1) n))) e
      ∙ (ap (λ b. node_eq (node_of t (a + 1 + i)) (node_of t a) || b) (in_range (a + 1) n i (omega arith)) ∙ or_true (node_eq (node_of t (a + 1 + i)) (node_of t a)))

  place_below : (k : ℕ) → k < length t.symbols → place_among (nodes_of t) (node_of t k) < length (nodes_of t)
  place_below k h = let e : 0 + k ≡ k = omega arith in
      place_within (node_eq (node_of t k)) (nodes_of t) (distinct_has node_eq node_laws (node_of t k) (map (node_of t) (range_with_len 0 (length t.symbols)))
      ∙ subst (λ j. list_any (node_eq (node_of t j)) (map (node_of t) (range_with_len 0 (length t.symbols))) ≡ true) e (in_range 0 (length t.symbols) k h))

  -- ---- the graph

  abbrev row_of : Node → List ℕ
  row_of n = map (place_of t) (references_of t n)

  graph_length : length (graph_of t) ≡ length (nodes_of t)
  graph_length = length-map (nodes_of t) row_of

  pub graph_is : rows_among t (nodes_of t) (lists_of t (nodes_of t)) ≡ graph_of t
  graph_is = each (nodes_of t)
    where
      each : (ns : List Node) → map (places_among t (nodes_of t)) (map (numbers_of t) ns) ≡ map row_of ns
      each [] = refl
      each (n ∷ ns) = let one = sym (map-map (place_of t) (node_of t) (numbers_of t n)) in let rest = each ns in λ i. one i ∷ rest i

  -- places that are looked up are those that are searched for
  pub looked_up : (nodes : List Node) (rows : List (List ℕ)) → AreRowsBelow (length t.symbols) rows → map (each_at (symbol_places t nodes)) rows ≡ rows_among t nodes rows
  looked_up nodes [] h = refl
  looked_up nodes (row ∷ rows) h = let one = each row (All-head (All (λ k. k < length t.symbols)) row rows h) in
      let rest = looked_up nodes rows (All-tail (All (λ k. k < length t.symbols)) row rows h) in λ i. one i ∷ rest i
    where
      each : (ks : List ℕ) → All (λ k. k < length t.symbols) ks → each_at (symbol_places t nodes) ks ≡ places_among t nodes ks
      each [] g = refl
      each (k ∷ ks) g = let one = get_or-map-range_with_len (λ j. place_among nodes (node_of t j)) 0 (length t.symbols) k k 0 (All-head (λ k. k < length t.symbols) k ks g) (omega arith) in
          let rest = each ks (All-tail (λ k. k < length t.symbols) k ks g) in λ i. one i ∷ rest i

  rows_below : AreRowsBelow (length t.symbols) (lists_of t (nodes_of t)) → AreRowsBelow (length (nodes_of t)) (rows_among t (nodes_of t) (lists_of t (nodes_of t)))
  rows_below h = All-map (λ row. All (λ p. p < length (nodes_of t)) row) (places_among t (nodes_of t)) (lists_of t (nodes_of t))
      (All-weaker (λ row. All (λ k. k < length t.symbols) row) (λ row. All (λ p. p < length (nodes_of t)) (places_among t (nodes_of t) row)) one (lists_of t (nodes_of t)) h)
    where
      one : (row : List ℕ) → All (λ k. k < length t.symbols) row → All (λ p. p < length (nodes_of t)) (places_among t (nodes_of t) row)
      one row g = All-map (λ p. p < length (nodes_of t)) (λ k. place_among (nodes_of t) (node_of t k)) row (All-weaker (λ k. k < length t.symbols) (λ k. place_among (nodes_of t) (node_of t k) < length (nodes_of t)) place_below row g)

  pub graph_whole : length t.symbols ≤ max_symbols → AreRowsBelow (length t.symbols) (lists_of t (nodes_of t)) → IsGraph (graph_of t)
  graph_whole few h = record { small = omega (arith, graph_length, length-nodes, few); within = λ a b r. subst (λ n. b < n) (sym graph_length) (by a b r (cases_lt a (length (graph_of t)))) }
    where
      below : AreRowsBelow (length (nodes_of t)) (graph_of t)
      below = subst (AreRowsBelow (length (nodes_of t))) graph_is (rows_below h)

      by : (a b : ℕ) → Refers (graph_of t) a b → (a < length (graph_of t)) ⊎ (length (graph_of t) ≤ a) → b < length (nodes_of t)
      by a b r (inl l) = All-contains (λ p. p < length (nodes_of t)) (refers_of (graph_of t) a) b (All-get_or (λ row. All (λ p. p < length (nodes_of t)) row) (graph_of t) a [] l below) r
      by a b r (inr l) = All-contains (λ p. p < length (nodes_of t)) (refers_of (graph_of t) a) b (subst (All (λ p. p < length (nodes_of t))) (sym (get_or_past (graph_of t) a [] l)) (All-nil (λ p. p < length (nodes_of t)))) r

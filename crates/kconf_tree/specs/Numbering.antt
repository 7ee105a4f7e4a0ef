-- The nodes with the numbers of the symbols that they refer to, and their order numbers. No public contract
-- cites this module.
use Rattle.std.specs.Prelude.{ℕ, List, length, map, slice_index_or}
use Rattle.std.specs.List.{position_or_len, range_with_len}
use Rattle.ut_logic.specs.declared.node.Node.{Node}
use Rattle.ut_logic.specs.Node.{node_eq}
use Rattle.kconf_tree.specs.Shape.{Shape}
use Rattle.kconf_tree.specs.References.{node_of, numbers_of}

-- for each node the symbols that it refers to
abbrev pub lists_of : Shape → List Node → List (List ℕ)
lists_of t nodes = map (numbers_of t) nodes

-- the place of a node in a list
abbrev pub place_among : List Node → Node → ℕ
place_among nodes n = position_or_len (node_eq n) nodes

-- the places of the nodes of symbols
abbrev pub places_among : Shape → List Node → List ℕ → List ℕ
places_among t nodes ks = map (λ k. place_among nodes (node_of t k)) ks

-- those of each list
abbrev pub rows_among : Shape → List Node → List (List ℕ) → List (List ℕ)
rows_among t nodes lists = map (places_among t nodes) lists

-- the order number of the node of each symbol, by the symbols' numbers
abbrev pub symbol_places : Shape → List Node → List ℕ
symbol_places t nodes = places_among t nodes (range_with_len 0 (length t.symbols))

-- what a list has at these places
abbrev pub each_at : List ℕ → List ℕ → List ℕ
each_at list places = map (λ p. slice_index_or list p 0) places

-- How the selects and implies are added to the rows of their targets, one after another. No public contract cites this
-- module.
use Rattle.std.specs.Prelude.{◌<◌, ℕ, List, [], ◌∷◌, ◌++◌, Option, None, Some, length, slice_index_or, slice_set, suc}
use Rattle.kconf_entries.specs.declared.entries.SelectOf.{SelectOf}
use Rattle.kconf_tree.specs.declared.shape.Symbol.{Symbol}
use Rattle.kconf_tree.specs.declared.shape.Selector.{Selector}
use Rattle.kconf_tree.specs.declared.links.Link.{Link}
use Rattle.kconf_tree.specs.declared.links.Link.TheVariants.{Selects, Implies}
use Rattle.kconf_tree.specs.Shape.{Shape, Selecting, symbol_at, number_of, selecting_in, selectors_of, impliers_of}

-- what a symbol selects, or what it implies
abbrev pub list_of : Link → Symbol → List SelectOf
list_of Selects s = s.selects
list_of Implies s = s.implies

-- who selects a symbol, or who implies it
abbrev pub linkers_of : Link → Shape → ℕ → List Selecting
linkers_of Selects t k = selectors_of t k
linkers_of Implies t k = impliers_of t k

-- the select, or imply, that is named by its symbol and its place
abbrev pub linker_of : Shape → Link → Selector → Selecting
linker_of t link s = selecting_in (list_of link (symbol_at t s.by)) s

-- it exists
abbrev pub IsLinker : Shape → Link → Selector → Type 0
IsLinker t link s = (s.by < length t.symbols) × (s.nth < length (list_of link (symbol_at t s.by)))

-- the rows, where the one with this number has one more
abbrev pub with_one : List (List Selector) → Option ℕ → Selector → List (List Selector)
with_one rows None s = rows
with_one rows (Some k) s = slice_set rows k (slice_index_or rows k [] ++ s ∷ [])

-- with the select or imply n of symbol j
abbrev pub linked_one : Shape → ℕ → ℕ → List (List Selector) → SelectOf → List (List Selector)
linked_one t j n rows s = with_one rows (number_of t s.target) (record { by = j; nth = n })

-- with all of a symbol, from number n on
abbrev pub linked_each : Shape → ℕ → ℕ → List (List Selector) → List SelectOf → List (List Selector)
linked_each t j n rows [] = rows
linked_each t j n rows (s ∷ ss) = linked_each t j (suc n) (linked_one t j n rows s) ss

-- with those of all symbols, from this number on
abbrev pub linked_all : Shape → Link → ℕ → List (List Selector) → List Symbol → List (List Selector)
linked_all t link j rows [] = rows
linked_all t link j rows (s ∷ ss) = linked_all t link (suc j) (linked_each t j 0 rows (list_of link s)) ss

-- The selects and implies of all symbols as their targets see them, and rows of numbers. No public contract
-- cites this module.
use Rattle.std.specs.Prelude.{◌≡◌, ◌<◌, ℕ, List, [], length, map, All, slice_index_or}
use Rattle.kconf_tree.specs.declared.links.Link.{Link}
use Rattle.kconf_tree.specs.declared.links.Link.TheVariants.{Selects, Implies}
use Rattle.kconf_tree.specs.declared.links.Links.{Links}
use Rattle.kconf_tree.specs.declared.shape.Selector.{Selector}
use Rattle.kconf_tree.specs.Shape.{Shape}
use Rattle.kconf_tree.specs.Linking.{IsLinker, linker_of, linkers_of}

-- all numbers in the rows are below n
abbrev pub AreRowsBelow : ℕ → List (List ℕ) → Type 0
AreRowsBelow n rows = All (λ row. All (λ k. k < n) row) rows

-- all selects, or implies, that the rows name exist
abbrev pub AreLinkers : Shape → Link → List (List Selector) → Type 0
AreLinkers t link rows = All (λ row. All (IsLinker t link) row) rows

-- the row of each symbol names those that select it, or imply it
pub record AreRows (t : Shape) (link : Link) (rows : List (List Selector)) : Type 0 where
  pub count : length rows ≡ length t.symbols
  pub each : (k : ℕ) → k < length t.symbols → map (linker_of t link) (slice_index_or rows k []) ≡ linkers_of link t k
  pub within : AreLinkers t link rows

-- of both kinds
pub record AreLinks (t : Shape) (l : Links) : Type 0 where
  pub selects : AreRows t Selects l.selects.items
  pub implies : AreRows t Implies l.implies.items

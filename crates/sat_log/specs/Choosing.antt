-- The items that a trail makes true, while they are gathered. No public contract cites this module.
use Rattle.std.specs.Prelude.{◌≡◌, ◌↔◌, ℕ, ◌+◌, ◌<◌, Bool, true, List, [], ◌∷◌, ◌++◌, slice_index_or, if◌then◌else◌, Contains}
use Rattle.ut_logic.specs.declared.item.Item.{Item}
use Rattle.ut_logic.specs.Clauses.{literal}
use Rattle.sat_log.specs.declared.marks.Mark.{Mark}
use Rattle.sat_log.specs.Moves.{IsSet}

-- of the first k items those whose variable is true are chosen, and no others
pub record AreChosen (items : List Item) (marks : List Mark) (k : ℕ) (chosen : List Item) : Type 0 where
  pub given : (j : ℕ) (d : Item) → j < k → Contains chosen (slice_index_or items j d) ↔ IsSet marks (literal (j + 1) true)
  pub only : (x : Item) → Contains chosen x → (j : ℕ) × (j < k) × ((d : Item) → slice_index_or items j d ≡ x)

-- the list with an item at its end, if it is to be chosen
abbrev pub chosen_with : List Item → Item → Bool → List Item
chosen_with chosen item wanted = if wanted then chosen ++ item ∷ [] else chosen

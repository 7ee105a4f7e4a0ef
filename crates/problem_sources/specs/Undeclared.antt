-- Names that are added to a set. No public contract cites this module.
use Rattle.std.specs.Prelude.{◌≡◌, Bool, ◌||◌, List}
use Rattle.std.specs.List.{list_any}
use Rattle.std.specs.Ordering.{eq_by_cmp}
use Rattle.std.specs.BTreeSet.{BTreeSet, contains}
use Rattle.ut_text.specs.Bytes.{Bytes}
use Rattle.ut_text.specs.Text.{text_cmp}

-- a name is in the list
abbrev pub is_named : List Bytes → Bytes → Bool
is_named names name = list_any (eq_by_cmp text_cmp name) names

-- the set has the names of the list beside those that it had
abbrev pub AddsNames : BTreeSet Bytes → BTreeSet Bytes → List Bytes → Type 0
AddsNames old new names = (name : Bytes) → contains text_cmp new name ≡ (is_named names name || contains text_cmp old name)

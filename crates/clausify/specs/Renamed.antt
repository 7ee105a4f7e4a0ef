-- Facts with other items in place of their own; nodes stay. The usual substitution of variables.
use Rattle.std.specs.Prelude.{◌≡◌, true, List, map}
use Rattle.ut_logic.specs.declared.item.Item.{Item}
use Rattle.ut_logic.specs.declared.facts.Definition.{Definition}
use Rattle.ut_logic.specs.declared.facts.Fact.{Fact}
use Rattle.ut_logic.specs.Assign.{is_in}
use Rattle.ut_logic.specs.Item.{item_cmp}
use Rattle.ut_logic.specs.Renaming.{renamed}

abbrev pub renamed_definition : (Item → Item) → Definition → Definition
renamed_definition r d = record { item = r d.item; formula = renamed r d.formula }

abbrev pub renamed_fact : (Item → Item) → Fact → Fact
renamed_fact r f = record { node = f.node; holds = map (renamed r) f.holds; defines = map (renamed_definition r) f.defines; names = f.names; items = map r f.items }

-- two of the items stand in the order in which their new ones do
abbrev pub KeepsOrder : (Item → Item) → List Item → Type 0
KeepsOrder r items = (a b : Item) → is_in items a ≡ true → is_in items b ≡ true → item_cmp (r a) (r b) ≡ item_cmp a b

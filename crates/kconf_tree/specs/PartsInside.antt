-- The fields of a tree without an order, and what is true of them. No public contract cites this module.
use Rattle.std.specs.Prelude.{◌≡◌, ◌<◌, ◌≤◌, ◌^◌, length, All, IfSome}
use Rattle.ut_text.specs.Text.{text_eq}
use Rattle.kconf_tree.specs.declared.shape.Symbol.{Symbol}
use Rattle.kconf_tree.specs.declared.shape.Choice.{Choice}
use Rattle.kconf_tree.specs.declared.parts.Parts.TheInside.{Inside}
use Rattle.kconf_tree.specs.Shape.{Shape}
use Rattle.kconf_tree.specs.Types.{typed}
use Rattle.kconf_tree.specs.Apart.{AreApart, names_in}
use Rattle.kconf_tree.specs.Limits.{max_symbols}

-- the shape of the fields
abbrev pub shape_of : Inside → Shape
shape_of t = record { symbols = t.symbols.items; choices = t.choices.items; outers = t.outers.keys; modules = t.modules }

-- names lead to their symbols, and no number passes its room
pub record IsKept (t : Inside) : Type 0 where
  pub named : names_in (typed t.types).symbols ≡ names_in t.symbols.items
  pub apart : AreApart text_eq (names_in t.symbols.items)
  pub symbols : length t.symbols.items ≤ max_symbols
  pub choices : length t.choices.items < 2 ^ 32
  pub modules : IfSome t.modules (λ k. k < length t.symbols.items)
  pub member_of : All (λ (s : Symbol). IfSome s.member_of (λ i. i < length t.choices.items)) t.symbols.items
  pub members : All (λ (c : Choice). All (λ k. k < length t.symbols.items) c.members) t.choices.items

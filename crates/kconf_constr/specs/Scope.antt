-- Where an expression is read: a tree, and the undeclared names that may be read as y.
-- Rule: this project's own.
use Rattle.std.specs.Prelude.{ℕ, List, [], Option, position}
use Rattle.std.specs.List.Sorted.{IsStrictlySortedBy}
use Rattle.ut_text.specs.Bytes.{Bytes}
use Rattle.ut_text.specs.Text.{text_eq, text_cmp}
use Rattle.kconf_tree.specs.Shape.{Shape}

-- each undeclared name of the list has an item, and every other one is n
pub record Scope : Type 0 where
  pub shape : Shape
  pub undeclared : List Bytes

-- where every undeclared name is n
abbrev pub whole : Shape → Scope
whole t = record { shape = t; undeclared = [] }

-- where these may be y
abbrev pub with_undeclared : Shape → List Bytes → Scope
with_undeclared t names = record { shape = t; undeclared = names }

-- strictly rising by their bytes
abbrev pub IsRising : List Bytes → Type 0
IsRising names = IsStrictlySortedBy text_cmp names

-- the number of an undeclared name
abbrev pub number_among : List Bytes → Bytes → Option ℕ
number_among names name = position (λ n. text_eq n name) names

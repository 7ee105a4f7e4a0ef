-- The facts of a tree: one for each symbol, in order, and then one for each choice. This project's rule.
use Rattle.std.specs.Prelude.{ℕ, Bool, not, List, [], ◌∷◌, ◌++◌, Option, None, Some, is_some, length, map, filter}
use Rattle.std.specs.List.{range_with_len}
use Rattle.ut_logic.specs.declared.item.Item.{Item}
use Rattle.ut_logic.specs.declared.item.Item.TheVariants as item
use Rattle.ut_logic.specs.declared.node.Node.{Node}
use Rattle.ut_logic.specs.declared.node.Node.TheVariants.{Sym, Choice}
use Rattle.ut_logic.specs.declared.formula.Formula.{Formula}
use Rattle.ut_logic.specs.declared.facts.Fact.{Fact}
use Rattle.ut_logic.specs.Owners.{owner}
use Rattle.ut_logic.specs.Truth.{mentioned, together}
use Rattle.kconf_tree.specs.declared.shape.Counts.{Counts}
use Rattle.kconf_tree.specs.declared.shape.Counts.TheVariants as counts
use Rattle.kconf_tree.specs.Shape.{Shape, symbol_at, choice_at, counts_as}
use Rattle.kconf_tree.specs.Valid.{choice_counts}
use Rattle.kconf_tree.specs.References.{references_of}
use Rattle.kconf_constr.specs.Scope.{Scope}
use Rattle.kconf_constr.specs.SymbolFormulas.{symbol_holds}
use Rattle.kconf_constr.specs.ChoiceFormulas.{choice_holds}

-- ---- items

-- the items of a symbol that counts as this
abbrev pub own_items : Counts → ℕ → List Item
own_items counts.Bool k = item.SymY k ∷ []
own_items counts.Tristate k = item.SymY k ∷ item.SymM k ∷ []
own_items counts.Neither k = []

-- the items of a choice that counts as this
abbrev pub mode_items : Counts → ℕ → List Item
mode_items counts.Bool i = item.ModeY i ∷ []
mode_items counts.Tristate i = item.ModeY i ∷ item.ModeM i ∷ []
mode_items counts.Neither i = item.ModeY i ∷ []

-- an item that no node has as its own, such as that of an undeclared name or of an outer condition
abbrev pub is_loose : Item → Bool
is_loose i = not (is_some (owner i))

-- those that formulas mention
abbrev pub loose_items : List Formula → List Item
loose_items fs = filter is_loose (together (map mentioned fs))

-- ---- names

-- the choice of a member
abbrev pub choice_of : Shape → ℕ → Option ℕ
choice_of t k = (symbol_at t k).member_of

-- a member names its choice, and a symbol that is no member all that it refers to
abbrev pub names_by : Shape → ℕ → Option ℕ → List Node
names_by t k None = references_of t (Sym k)
names_by t k (Some i) = Choice i ∷ []

-- a choice names its members and all that it and they refer to
abbrev pub choice_names : Shape → ℕ → List Node
choice_names t i = map (λ j. Sym j) (choice_at t i).members ++ references_of t (Choice i)

-- ---- facts

-- the fact of a symbol
abbrev pub symbol_fact : Scope → ℕ → Fact
symbol_fact s k = record {
  node = Sym k;
  holds = symbol_holds s k;
  defines = [];
  names = names_by s.shape k (choice_of s.shape k);
  items = own_items (counts_as s.shape k) k ++ loose_items (symbol_holds s k);
}

-- the fact of a choice
abbrev pub choice_fact : Scope → ℕ → Fact
choice_fact s i = record {
  node = Choice i;
  holds = choice_holds s i;
  defines = [];
  names = choice_names s.shape i;
  items = mode_items (choice_counts s.shape i) i ++ loose_items (choice_holds s i);
}

-- all facts
abbrev pub facts_of : Scope → List Fact
facts_of s = map (symbol_fact s) (range_with_len 0 (length s.shape.symbols)) ++ map (choice_fact s) (range_with_len 0 (length s.shape.choices))

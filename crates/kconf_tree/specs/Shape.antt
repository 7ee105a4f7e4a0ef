-- What contracts see of a tree: symbols and choices in order of first declaration, each with its
-- properties, and the outer conditions; and what names and numbers stand for in it.
-- Rule: Linux kconfig-language, "Menu attributes" and "Menu structure"; the numbers are this project's rule.
use Rattle.std.specs.Prelude.{ℕ, ◌==◌, ◌<◌, Bool, false, List, [], ◌∷◌, ◌++◌, Option, None, Some, if◌then◌else◌, position, get_or, length, suc, is_some}
use Rattle.ut_text.specs.Bytes.{Bytes}
use Rattle.ut_text.specs.Text.{text_eq}
use Rattle.ut_logic.specs.declared.trit.Trit.TheVariants.{N}
use Rattle.kconf_entries.specs.declared.entries.SelectOf.{SelectOf}
use Rattle.kconf_entries.specs.declared.entries.Kind.{Kind}
use Rattle.kconf_entries.specs.declared.entries.Kind.TheVariants as kind
use Rattle.kconf_entries.specs.declared.expr.Expr.{Expr}
use Rattle.kconf_entries.specs.declared.expr.Expr.TheVariants.{Const}
use Rattle.kconf_tree.specs.declared.shape.Symbol.{Symbol}
use Rattle.kconf_tree.specs.declared.shape.Choice.{Choice}
use Rattle.kconf_tree.specs.declared.shape.Selector.{Selector}
use Rattle.kconf_tree.specs.declared.shape.Counts.{Counts}
use Rattle.kconf_tree.specs.declared.shape.Counts.TheVariants as counts

-- the tree, with the texts of its outer conditions and the number of its modules symbol
pub record Shape : Type 0 where
  pub symbols : List Symbol
  pub choices : List Choice
  pub outers : List Bytes
  pub modules : Option ℕ

-- the symbol that is read past the last one
abbrev pub no_symbol : Symbol
no_symbol = record { name = []; kind = kind.Untyped; member_of = None; places = []; prompts = []; defaults = []; selects = []; implies = [] }

-- the choice that is read past the last one
abbrev pub no_choice : Choice
no_choice = record { kind = kind.Bool; members = []; prompts = []; defaults = []; optional = false }

-- the symbol with a number
abbrev pub symbol_at : Shape → ℕ → Symbol
symbol_at t k = get_or t.symbols k no_symbol

-- the choice with a number
abbrev pub choice_at : Shape → ℕ → Choice
choice_at t i = get_or t.choices i no_choice

-- the number of a declared name
abbrev pub number_of : Shape → Bytes → Option ℕ
number_of t name = position (λ s. text_eq s.name name) t.symbols

-- the number of an outer condition's text
abbrev pub outer_at : Shape → Bytes → Option ℕ
outer_at t text = position (λ o. text_eq o text) t.outers

-- the optional number is this one
abbrev pub is_the : Option ℕ → ℕ → Bool
is_the None k = false
is_the (Some j) k = j == k

-- a symbol that is a member of a choice
abbrev pub is_member : Shape → ℕ → Bool
is_member t k = is_some (symbol_at t k).member_of

-- what a type counts as, by itself
abbrev pub counts_alone : Kind → Counts
counts_alone kind.Bool = counts.Bool
counts_alone kind.Tristate = counts.Tristate
counts_alone k = counts.Neither

-- in a bool choice each member counts as bool; in a tristate one an untyped member as tristate
abbrev pub counts_in : Counts → Kind → Counts
counts_in counts.Tristate kind.Bool = counts.Bool
counts_in counts.Tristate k = counts.Tristate
counts_in c k = counts.Bool

-- by the symbol's own type, or by its choice
abbrev pub counts_with : Shape → Kind → Option ℕ → Counts
counts_with t k None = counts_alone k
counts_with t k (Some i) = counts_in (counts_alone (choice_at t i).kind) k

-- the modules symbol counts as bool, a member by its choice, every other by its own type
abbrev pub counts_as : Shape → ℕ → Counts
counts_as t k = if is_the t.modules k then counts.Bool else counts_with t (symbol_at t k).kind (symbol_at t k).member_of

-- a select or an imply as its target sees it: the symbol that has it, and its full condition
pub record Selecting : Type 0 where
  pub by : ℕ
  pub cond : Expr

-- the select that is read past the last one
abbrev pub no_select : SelectOf
no_select = record { target = []; cond = Const N }

-- the one of these selects or implies of a symbol that is named by its place
abbrev pub selecting_in : List SelectOf → Selector → Selecting
selecting_in ss s = record { by = s.by; cond = (get_or ss s.nth no_select).cond }

-- the select that is named by its symbol and its place
abbrev pub selecting_of : Shape → Selector → Selecting
selecting_of t s = selecting_in (symbol_at t s.by).selects s

-- the select exists
abbrev pub IsSelector : Shape → Selector → Type 0
IsSelector t s = (s.by < length t.symbols) × (s.nth < length (symbol_at t s.by).selects)

-- likewise the imply that is named so
abbrev pub implying_of : Shape → Selector → Selecting
implying_of t s = selecting_in (symbol_at t s.by).implies s

-- the imply exists
abbrev pub IsImplier : Shape → Selector → Type 0
IsImplier t s = (s.by < length t.symbols) × (s.nth < length (symbol_at t s.by).implies)

-- who selects a symbol, in order of declaration
abbrev pub selects_at : Bytes → ℕ → List SelectOf → List Selecting
selects_at name j [] = []
selects_at name j (s ∷ ss) = if text_eq s.target name then record { by = j; cond = s.cond } ∷ selects_at name j ss else selects_at name j ss

-- the selects of this name by the symbols from number j on
abbrev pub selects_from : Bytes → ℕ → List Symbol → List Selecting
selects_from name j [] = []
selects_from name j (s ∷ ss) = selects_at name j s.selects ++ selects_from name (suc j) ss

-- all selects of a symbol
abbrev pub selectors_of : Shape → ℕ → List Selecting
selectors_of t k = selects_from (symbol_at t k).name 0 t.symbols

-- likewise who implies it
abbrev pub implies_from : Bytes → ℕ → List Symbol → List Selecting
implies_from name j [] = []
implies_from name j (s ∷ ss) = selects_at name j s.implies ++ implies_from name (suc j) ss

-- all implies of a symbol
abbrev pub impliers_of : Shape → ℕ → List Selecting
impliers_of t k = implies_from (symbol_at t k).name 0 t.symbols

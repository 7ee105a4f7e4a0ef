-- What symbols and choices refer to; a tree is recursive if something refers to itself through others. A choice and its members
-- are one node, and a symbol that is no member is one.
-- Rule: Linux kconfig-language, "Menu dependencies" and "Menu attributes", name what depends on what;
-- which of these references count is this project's rule.
use Rattle.std.specs.Prelude.{ℕ, List, [], ◌∷◌, ◌++◌, Option, None, Some, if◌then◌else◌, map}
use Rattle.std.specs.List.{flat_map}
use Rattle.std.specs.Option.{option_to_list}
use Rattle.ut_logic.specs.declared.trit.Trit.{Trit}
use Rattle.ut_logic.specs.declared.trit.Trit.TheVariants.{M}
use Rattle.ut_logic.specs.declared.node.Node.{Node}
use Rattle.ut_logic.specs.declared.node.Node.TheVariants.{Sym, Choice}
use Rattle.kconf_entries.specs.declared.expr.Side.{Side}
use Rattle.kconf_entries.specs.declared.expr.Side.TheVariants as side
use Rattle.kconf_entries.specs.declared.expr.Sign.{Sign}
use Rattle.kconf_entries.specs.declared.expr.Expr.{Expr}
use Rattle.kconf_entries.specs.declared.expr.Expr.TheOpen.{Expr-F}
use Rattle.kconf_entries.specs.declared.expr.Expr.TheFolds.{fold-Expr}
use Rattle.kconf_entries.specs.declared.entries.DefaultOf.{DefaultOf}
use Rattle.kconf_entries.specs.declared.entries.SelectOf.{SelectOf}
use Rattle.kconf_tree.specs.declared.shape.Counts.{Counts}
use Rattle.kconf_tree.specs.declared.shape.Counts.TheVariants as counts
use Rattle.kconf_tree.specs.Shape.{Selecting}
use Rattle.kconf_tree.specs.Shape.{Shape, symbol_at, choice_at, is_the, number_of, counts_alone, counts_as, selectors_of, impliers_of}
use Rattle.kconf_tree.specs.Value.{Place, Condition, Value, Comparison, OfTrits, OfText, comparison_of}

-- ---- expressions

-- the symbol that a name stands for, if it is declared
abbrev pub named_by : Shape → List ℕ → List ℕ
named_by t name = option_to_list (number_of t name)

-- the symbol that a side names
abbrev pub side_numbers : Shape → Side → List ℕ
side_numbers t (side.Name name) = named_by t name
side_numbers t s = []

-- a bare m in a condition asks for the modules symbol; as a default's value it is m
abbrev pub const_numbers : Shape → Place → Trit → List ℕ
const_numbers t Condition M = option_to_list t.modules
const_numbers t p x = []

-- both sides of a comparison of two of the three values
abbrev pub compared_numbers : Shape → Side → Side → Comparison → List ℕ
compared_numbers t left right OfTrits = side_numbers t left ++ side_numbers t right
compared_numbers t left right (OfText text) = []

-- what stands in outer conditions alone doesn't count
abbrev pub numbers_step : Shape → Place → Expr-F (List ℕ) → List ℕ
numbers_step t p (Expr-F.Const x) = const_numbers t p x
numbers_step t p (Expr-F.Name name) = named_by t name
numbers_step t p (Expr-F.Outer text) = []
numbers_step t p (Expr-F.Compare left s right) = compared_numbers t left right (comparison_of t left s right)
numbers_step t p (Expr-F.Neg ks) = ks
numbers_step t p (Expr-F.And lists) = flat_map (λ ks. ks) lists
numbers_step t p (Expr-F.Or lists) = flat_map (λ ks. ks) lists

-- the symbols that an expression asks for, in order
abbrev pub numbers_in : Shape → Place → Expr → List ℕ
numbers_in t p = fold-Expr (List ℕ) (numbers_step t p)

-- those that conditions ask for
abbrev pub in_conditions : Shape → List Expr → List ℕ
in_conditions t = flat_map (numbers_in t Condition)

-- ---- symbols

-- those of a default: its condition and its value
abbrev pub of_default : Shape → DefaultOf → List ℕ
of_default t d = numbers_in t Condition d.cond ++ numbers_in t Value d.value

-- those of a select or an imply: the symbol that has it, and its condition
abbrev pub of_selector : Shape → Selecting → List ℕ
of_selector t s = s.by ∷ numbers_in t Condition s.cond

-- what counts as tristate asks for the modules symbol
abbrev pub of_type : Shape → Counts → List ℕ
of_type t counts.Tristate = option_to_list t.modules
of_type t c = []

-- the dependencies of the places of a symbol that some symbol implies
abbrev pub of_implied : Shape → List Selecting → List Expr → List ℕ
of_implied t [] places = []
of_implied t (s ∷ ss) places = in_conditions t places

-- a symbol's own: its prompts, defaults, places where it is implied, and type
abbrev pub own_references : Shape → ℕ → List ℕ
own_references t k = in_conditions t (symbol_at t k).prompts ++ flat_map (of_default t) (symbol_at t k).defaults
    ++ of_implied t (impliers_of t k) (symbol_at t k).places ++ of_type t (counts_as t k)

-- those of a symbol that is no member: who selects and implies it too
abbrev pub symbol_references : Shape → ℕ → List ℕ
symbol_references t k = own_references t k ++ flat_map (of_selector t) (selectors_of t k) ++ flat_map (of_selector t) (impliers_of t k)

-- ---- choices

-- what a choice default picks, where that is no member of the choice i
abbrev pub picked_outside : Shape → ℕ → Option ℕ → List ℕ
picked_outside t i None = []
picked_outside t i (Some k) = if is_the (symbol_at t k).member_of i then [] else k ∷ []

-- those of a choice default: what it picks, and its condition
abbrev pub of_choice_default : Shape → ℕ → SelectOf → List ℕ
of_choice_default t i d = picked_outside t i (number_of t d.target) ++ numbers_in t Condition d.cond

-- those of a choice: its prompts, defaults and type, and its members' own
abbrev pub choice_references : Shape → ℕ → List ℕ
choice_references t i = in_conditions t (choice_at t i).prompts ++ flat_map (of_choice_default t i) (choice_at t i).defaults
    ++ of_type t (counts_alone (choice_at t i).kind) ++ flat_map (own_references t) (choice_at t i).members

-- ---- nodes

-- a member's node is its choice
abbrev pub node_by : ℕ → Option ℕ → Node
node_by k None = Sym k
node_by k (Some i) = Choice i

-- the node of a symbol
abbrev pub node_of : Shape → ℕ → Node
node_of t k = node_by k (symbol_at t k).member_of

-- the symbols that a node refers to
abbrev pub numbers_of : Shape → Node → List ℕ
numbers_of t (Sym k) = symbol_references t k
numbers_of t (Choice i) = choice_references t i
numbers_of t n = []

-- the nodes that a node refers to
abbrev pub references_of : Shape → Node → List Node
references_of t n = map (node_of t) (numbers_of t n)

-- The undeclared names of a tree's three-valued expressions: names, and the sides of comparisons of two of
-- the three values. What stands in outer conditions alone doesn't count.
-- Rule: this project's own.
use Rattle.std.specs.Prelude.{◌↔◌, List, [], ◌∷◌, ◌++◌, Contains, if◌then◌else◌, is_some}
use Rattle.std.specs.List.{flat_map}
use Rattle.std.specs.List.Sorted.{IsStrictlySortedBy}
use Rattle.ut_text.specs.Bytes.{Bytes}
use Rattle.ut_text.specs.Text.{text_cmp}
use Rattle.kconf_entries.specs.declared.expr.Side.{Side}
use Rattle.kconf_entries.specs.declared.expr.Side.TheVariants as side
use Rattle.kconf_entries.specs.declared.expr.Expr.{Expr}
use Rattle.kconf_entries.specs.declared.expr.Expr.TheOpen.{Expr-F}
use Rattle.kconf_entries.specs.declared.expr.Expr.TheFolds.{fold-Expr}
use Rattle.kconf_entries.specs.declared.entries.DefaultOf.{DefaultOf}
use Rattle.kconf_entries.specs.declared.entries.SelectOf.{SelectOf}
use Rattle.kconf_tree.specs.declared.shape.Symbol.{Symbol}
use Rattle.kconf_tree.specs.declared.shape.Choice.{Choice}
use Rattle.kconf_tree.specs.Shape.{Shape, number_of}
use Rattle.kconf_tree.specs.Value.{Comparison, OfTrits, OfText, comparison_of}

-- a name that no symbol has
abbrev pub unless_declared : Shape → Bytes → List Bytes
unless_declared t name = if is_some (number_of t name) then [] else name ∷ []

-- that of a side
abbrev pub side_undeclared : Shape → Side → List Bytes
side_undeclared t (side.Name name) = unless_declared t name
side_undeclared t s = []

-- those of a comparison of two of the three values
abbrev pub compared_undeclared : Shape → Side → Side → Comparison → List Bytes
compared_undeclared t left right OfTrits = side_undeclared t left ++ side_undeclared t right
compared_undeclared t left right (OfText text) = []

-- by the parts of an expression
abbrev pub undeclared_step : Shape → Expr-F (List Bytes) → List Bytes
undeclared_step t (Expr-F.Const x) = []
undeclared_step t (Expr-F.Name name) = unless_declared t name
undeclared_step t (Expr-F.Outer text) = []
undeclared_step t (Expr-F.Compare left s right) = compared_undeclared t left right (comparison_of t left s right)
undeclared_step t (Expr-F.Neg names) = names
undeclared_step t (Expr-F.And lists) = flat_map (λ names. names) lists
undeclared_step t (Expr-F.Or lists) = flat_map (λ names. names) lists

-- the undeclared names of an expression, in order
abbrev pub undeclared_in : Shape → Expr → List Bytes
undeclared_in t = fold-Expr (List Bytes) (undeclared_step t)

-- of a default
abbrev pub undeclared_of_default : Shape → DefaultOf → List Bytes
undeclared_of_default t d = undeclared_in t d.value ++ undeclared_in t d.cond

-- of selects, implies or choice defaults
abbrev pub undeclared_of_conditions : Shape → List SelectOf → List Bytes
undeclared_of_conditions t = flat_map (λ (s : SelectOf). undeclared_in t s.cond)

-- of a symbol
abbrev pub undeclared_of_symbol : Shape → Symbol → List Bytes
undeclared_of_symbol t s = flat_map (undeclared_in t) s.places ++ flat_map (undeclared_in t) s.prompts ++ flat_map (undeclared_of_default t) s.defaults
    ++ undeclared_of_conditions t s.selects ++ undeclared_of_conditions t s.implies

-- of a choice
abbrev pub undeclared_of_choice : Shape → Choice → List Bytes
undeclared_of_choice t c = flat_map (undeclared_in t) c.prompts ++ undeclared_of_conditions t c.defaults

-- of the tree, each where it stands
abbrev pub undeclared_of : Shape → List Bytes
undeclared_of t = flat_map (undeclared_of_symbol t) t.symbols ++ flat_map (undeclared_of_choice t) t.choices

-- the list rises by bytes and has these names
pub record AreUndeclared (t : Shape) (names : List Bytes) : Type 0 where
  pub rising : IsStrictlySortedBy text_cmp names
  pub exact : (name : Bytes) → Contains names name ↔ Contains (undeclared_of t) name

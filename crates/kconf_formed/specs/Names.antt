-- Whether each name in an expression is a name: letters, digits and `_`, and neither a number nor a constant.
-- This project's words.
use Rattle.std.specs.Prelude.{Bool, true, ◌&&◌}
use Rattle.std.specs.List.{list_all}
use Rattle.kconf_entries.specs.declared.expr.Expr.{Expr}
use Rattle.kconf_entries.specs.declared.expr.Side.{Side}
use Rattle.kconf_entries.specs.declared.expr.Side.TheVariants as side
use Rattle.kconf_entries.specs.declared.expr.Expr.TheOpen.{Expr-F}
use Rattle.kconf_entries.specs.declared.expr.Expr.TheFolds.{fold-Expr}
use Rattle.kconf_words.specs.Kinds.{is_name_text}

-- a side of a comparison
abbrev pub has_name : Side → Bool
has_name (side.Const value) = true
has_name (side.Name name) = is_name_text name
has_name (side.Literal text) = true
has_name (side.Quoted text) = true

-- an expression with these parts
abbrev pub names_layer : Expr-F Bool → Bool
names_layer (Expr-F.Const value) = true
names_layer (Expr-F.Name name) = is_name_text name
names_layer (Expr-F.Outer text) = true
names_layer (Expr-F.Compare left sign right) = has_name left && has_name right
names_layer (Expr-F.Neg inner) = inner
names_layer (Expr-F.And members) = list_all (λ inner. inner) members
names_layer (Expr-F.Or members) = list_all (λ inner. inner) members

-- whether each name in an expression is one
abbrev pub has_names : Expr → Bool
has_names = fold-Expr Bool names_layer

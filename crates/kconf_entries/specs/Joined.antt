-- Joined conditions: the members of the conditions in order, where a constant y has none and an And list has its
-- members. Rule: Linux kconfig-language, "Menu dependencies"; the shape is this project's.
use Rattle.std.specs.Prelude.{List, [], ◌∷◌, ◌++◌, map}
use Rattle.ut_text.specs.Bytes.{Bytes}
use Rattle.ut_logic.specs.declared.trit.Trit.TheVariants.{Y}
use Rattle.kconf_entries.specs.declared.expr.Expr.{Expr, out-Expr}
use Rattle.kconf_entries.specs.declared.expr.Expr.TheOpen.{Expr-F}
use Rattle.kconf_entries.specs.declared.expr.Expr.TheVariants.{Const, Name, And}

-- no member is the constant y, one stands alone, more are an And list
abbrev pub joined : List Expr → Expr
joined [] = Const Y
joined (e ∷ []) = e
joined (e ∷ f ∷ es) = And (e ∷ f ∷ es)

-- what a condition with this outermost layer brings to a joined one
abbrev pub members_at : Expr → Expr-F Expr → List Expr
members_at e (Expr-F.Const Y) = []
members_at e (Expr-F.And es) = es
members_at e _ = e ∷ []

abbrev pub members_of : Expr → List Expr
members_of e = members_at e (out-Expr e)

abbrev pub members_of_all : List Expr → List Expr
members_of_all [] = []
members_of_all (e ∷ es) = members_of e ++ members_of_all es

-- all of these conditions
abbrev pub all_of : List Expr → Expr
all_of es = joined (members_of_all es)

-- all of these names
abbrev pub all_of_names : List Bytes → Expr
all_of_names names = joined (map (λ name. Name name) names)

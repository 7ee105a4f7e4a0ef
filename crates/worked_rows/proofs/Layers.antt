-- The outermost layers of a name and of the constant y.
use Rattle.std.proofs.Common.{◌≡◌, ℕ, rules, List}
use Rattle.ut_logic.specs.declared.trit.Trit.TheVariants.{Y}
use Rattle.kconf_entries.specs.declared.expr.Expr.{out-Expr}
use Rattle.kconf_entries.specs.declared.expr.Expr.TheOpen.{Expr-F}
use Rattle.kconf_entries.specs.declared.expr.Expr.TheVariants.{Const, Name}
use Rattle.kconf_entries.specs.declared.expr.Expr.TheViews.{the_lemmas}

-- that of a name
pub out_name : (n : List ℕ) → out-Expr (Name n) ≡ Expr-F.Name n
out_name n = search (rules, the_lemmas)

-- that of the constant y
pub out_y : out-Expr (Const Y) ≡ Expr-F.Const Y
out_y = search (rules, the_lemmas)

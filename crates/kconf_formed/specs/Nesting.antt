-- How deep an expression is nested: by negations and lists, one inside another. This project's rule.
use Rattle.std.specs.Prelude.{ℕ, ◌+◌, max, List, [], ◌∷◌}
use Rattle.kconf_entries.specs.declared.expr.Expr.{Expr}
use Rattle.kconf_entries.specs.declared.expr.Expr.TheOpen.{Expr-F}
use Rattle.kconf_entries.specs.declared.expr.Expr.TheFolds.{fold-Expr}

-- the greatest of these
abbrev pub greatest : List ℕ → ℕ
greatest [] = 0
greatest (n ∷ ns) = max n (greatest ns)

-- the nesting of one layer, given that of each inner one
abbrev pub nesting_layer : Expr-F ℕ → ℕ
nesting_layer (Expr-F.Const value) = 0
nesting_layer (Expr-F.Name name) = 0
nesting_layer (Expr-F.Outer text) = 0
nesting_layer (Expr-F.Compare left sign right) = 0
nesting_layer (Expr-F.Neg n) = 1 + n
nesting_layer (Expr-F.And ns) = 1 + greatest ns
nesting_layer (Expr-F.Or ns) = 1 + greatest ns

-- the nesting of an expression
abbrev pub nesting : Expr → ℕ
nesting = fold-Expr ℕ nesting_layer

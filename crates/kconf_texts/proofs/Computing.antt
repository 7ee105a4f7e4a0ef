-- What opens where a definition is computed on a short text.
use Rattle.std.specs.Str.{is_utf8, chars}
use Rattle.kconf_entries.specs.declared.expr.Expr.{out-Expr}
use Rattle.kconf_exprs.specs.Grammar.{within, expression_at}

-- `unfolding computing` opens expressions, the layers of an expression and the test for UTF-8
unfoldable pub computing : Unit {0}
unfolding within expression_at out-Expr Rattle.kconf_entries.specs.declared.expr.Expr.TheBlock.shown-the_row-Expr-1 denote.Hole.Carrier.out denote.Hole.Carrier.shown denote.Hole.Carrier.hidden is_utf8 chars lib.Utf8.encode
computing = tt

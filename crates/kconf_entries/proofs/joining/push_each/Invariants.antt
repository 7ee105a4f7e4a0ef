-- The copies so far are the first of those to come.
use Rattle.std.proofs.Common.{◌≡◌, ◌++◌, take}
use Rattle.kconf_entries.proofs.joining.push_each.Given as goal

abbrev pub invariant-loop-expr : goal.invariant-loop-expr
invariant-loop-expr l = l.list.items ≡ l.fn.list.items ++ take l.expr-index l.more

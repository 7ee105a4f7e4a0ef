-- The names so far.
use Rattle.std.proofs.Common.{◌≡◌, take, map}
use Rattle.kconf_entries.specs.declared.expr.Expr.TheVariants.{Name}
use Rattle.kconf_entries.proofs.joining.all_of_names.Given as goal

abbrev pub invariant-loop-name : goal.invariant-loop-name
invariant-loop-name l = l.list.items ≡ map (λ name. Name name) (take l.name-index l.names)

-- What has been added, and what the rest adds, are the whole.
use Rattle.std.proofs.Common.{◌≡◌, ◌++◌, drop, map}
use Rattle.kconf_constr.specs.PropertyFormulas.{default_counts}
use Rattle.kconf_constr.proofs.scope.Scope.add_defaults.Given as goal

abbrev pub invariant-loop-default : goal.invariant-loop-default
invariant-loop-default l = l.formulas.items ++ map (default_counts l.self) (drop l.default-index l.defaults) ≡ l.fn.formulas.items ++ map (default_counts l.self) l.defaults

-- What is left gives the other parts.
use Rattle.std.proofs.Common.{◌≡◌, ◌++◌, drop, []}
use Rattle.kconf_constr.specs.PropertyFormulas as spec
use Rattle.kconf_constr.proofs.scope.Scope.first_default.Given as goal

abbrev pub invariant-loop-default : goal.invariant-loop-default
invariant-loop-default l = l.parts.items ++ spec.default_parts l.self l.level l.passed.items (drop l.default-index l.defaults) ≡ spec.default_parts l.self l.level [] l.defaults

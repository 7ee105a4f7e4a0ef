use Rattle.std.proofs.Common.{◌≡◌, map}
use Rattle.std.specs.List.{range_with_len}
use Rattle.kconf_constr.specs.FactsOf as spec
use Rattle.kconf_constr.proofs.scope.Scope.symbol_facts.Given as goal

abbrev pub invariant-loop-sym : goal.invariant-loop-sym
invariant-loop-sym l = l.facts.items ≡ map (spec.symbol_fact l.self) (range_with_len 0 l.sym)

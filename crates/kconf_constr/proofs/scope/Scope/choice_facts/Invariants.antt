use Rattle.std.proofs.Common.{◌≡◌, map}
use Rattle.std.specs.List.{range_with_len}
use Rattle.kconf_constr.specs.FactsOf as spec
use Rattle.kconf_constr.proofs.scope.Scope.choice_facts.Given as goal

abbrev pub invariant-loop-choice : goal.invariant-loop-choice
invariant-loop-choice l = l.facts.items ≡ map (spec.choice_fact l.self) (range_with_len 0 l.choice)

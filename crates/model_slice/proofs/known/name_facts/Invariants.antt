-- What is left decides.
use Rattle.std.proofs.Common.{◌≡◌, drop}
use Rattle.std.specs.List.{list_all}
use Rattle.ut_logic.specs.declared.facts.Fact.{Fact}
use Rattle.model_slice.specs.Named.{names_of}
use Rattle.model_slice.specs.Found.{has_fact}
use Rattle.model_slice.proofs.known.name_facts.Given as goal

abbrev pub invariant-loop-fact : goal.invariant-loop-fact
invariant-loop-fact g l = let facts = g.S.FindFact.facts l.fn.store in
    list_all (λ (f : Fact). list_all (has_fact facts) (names_of facts f.node)) l.list ≡ list_all (λ (f : Fact). list_all (has_fact facts) (names_of facts f.node)) (drop l.fact-index l.list)

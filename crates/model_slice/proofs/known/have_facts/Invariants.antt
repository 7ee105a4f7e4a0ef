-- What is left decides.
use Rattle.std.proofs.Common.{◌≡◌, drop}
use Rattle.std.specs.List.{list_all}
use Rattle.model_slice.specs.Found.{has_fact}
use Rattle.model_slice.proofs.known.have_facts.Given as goal

abbrev pub invariant-loop-node : goal.invariant-loop-node
invariant-loop-node g l = let facts = g.S.FindFact.facts l.fn.store in list_all (has_fact facts) l.nodes ≡ list_all (has_fact facts) (drop l.node-index l.nodes)

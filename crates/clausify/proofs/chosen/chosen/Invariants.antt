-- What is left, after what is there, gives the whole.
use Rattle.std.proofs.Common.{◌≡◌, ◌++◌, drop, map}
use Rattle.clausify.specs.Order.{facts_of}
use Rattle.clausify.proofs.chosen.chosen.Given as goal

abbrev pub invariant-loop-node : goal.invariant-loop-node
invariant-loop-node g l = let facts = g.S.FindFact.facts l.fn.store in map (λ f. f.now) l.found.items ++ facts_of facts (drop l.node-index l.nodes) ≡ facts_of facts l.nodes

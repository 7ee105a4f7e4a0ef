-- What the facts of the nodes so far name.
use Rattle.std.proofs.Common.{◌≡◌, take, map}
use Rattle.model_slice.specs.Named.{names_of}
use Rattle.model_slice.proofs.reach.names_each.Given as goal

abbrev pub invariant-loop-node : goal.invariant-loop-node
invariant-loop-node g l = map (λ s. s.now) l.each.items ≡ map (names_of (g.S.FindFact.facts l.fn.store)) (take l.node-index l.nodes)

-- The nodes of the facts so far.
use Rattle.std.proofs.Common.{◌≡◌, take, map}
use Rattle.clausify.proofs.chosen.nodes_of.Given as goal

abbrev pub invariant-loop-fact : goal.invariant-loop-fact
invariant-loop-fact l = l.nodes.items ≡ map (λ f. f.now.node) (take l.fact-index l.facts)

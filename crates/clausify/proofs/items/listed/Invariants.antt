-- What is left, after what is there, gives the whole.
use Rattle.std.proofs.Common.{◌≡◌, ◌++◌, drop, map}
use Rattle.clausify.specs.Order.{items_of}
use Rattle.clausify.proofs.items.listed.Given as goal

abbrev pub invariant-loop-fact : goal.invariant-loop-fact
invariant-loop-fact l = l.items.items ++ items_of (map (λ f. f.now) (drop l.fact-index l.facts)) ≡ items_of (map (λ f. f.now) l.facts)

-- What is left, after what is there, gives the whole.
use Rattle.std.proofs.Common.{◌≡◌, ◌++◌, drop, map}
use Rattle.clausify.specs.Order.{mentioned_in}
use Rattle.clausify.proofs.listed.mention_facts.Given as goal

abbrev pub invariant-loop-fact : goal.invariant-loop-fact
invariant-loop-fact l = l.items.items ++ mentioned_in (map (λ f. f.now) (drop l.fact-index l.facts)) ≡ l.initial.items.items ++ mentioned_in (map (λ f. f.now) l.facts)

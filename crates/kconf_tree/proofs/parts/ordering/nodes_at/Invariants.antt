-- The nodes so far.
use Rattle.std.proofs.Common.{◌≡◌, take, map, get_or}
use Rattle.ut_logic.specs.declared.node.Node.TheVariants.{Sym}
use Rattle.kconf_tree.proofs.parts.ordering.nodes_at.Given as goal

abbrev pub invariant-loop-place : goal.invariant-loop-place
invariant-loop-place l = l.list.items ≡ map (λ k. get_or l.nodes.keys k (Sym 0)) (take l.place-index l.places)

-- The search is to come to the earlier ones.
use Rattle.std.proofs.Common.{◌≡◌, ◌++◌, map, take}
use Rattle.node_order.specs.declared.leaving.Turn.TheVariants.{Comes}
use Rattle.node_order.proofs.leaving.add_each.Given as goal

abbrev pub invariant-loop-node : goal.invariant-loop-node
invariant-loop-node l = l.turns.items ≡ l.initial.turns.items ++ map Comes (take l.node-index l.nodes)

-- All numbers are those of nodes.
use Rattle.node_order.specs.Leaving.{IsLeaving, turns_left}
use Rattle.node_order.proofs.leaving.Leaving.take_all.Given as goal

abbrev pub invariant-loop-turn : goal.invariant-loop-turn
invariant-loop-turn l = IsLeaving l.graph l.self

abbrev pub decreases-loop-turn : goal.decreases-loop-turn
decreases-loop-turn l = turns_left l.graph l.self

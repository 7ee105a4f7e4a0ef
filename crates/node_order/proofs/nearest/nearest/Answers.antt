use Rattle.std.proofs.Common.{ℕ, List, subst}
use Rattle.std.proofs.lemmas.List.{take_more, take_all}
use Rattle.node_order.specs.Returns.{IsAway, IsLeastOf}
use Rattle.node_order.proofs.ReturnLaws.{away_more}
use Rattle.node_order.proofs.nearest.nearest.Goals as goal

pub loop-node-preserved : goal.loop-node-preserved
loop-node-preserved c = rw (c.lesser-least.ensures, take_more c.args.nodes.now c.loop-node.node-index 0 c.loop-node-test.true) (away_more _ _ _ _ c.loop-node.invariant)

pub returns : goal.returns
returns c = subst (λ (nodes : List ℕ). IsLeastOf (IsAway nodes c.args.found.now) c.loop-node.least) (take_all c.loop-node.node-index c.args.nodes.now c.loop-node-test.false) c.loop-node.invariant

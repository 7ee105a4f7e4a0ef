use Rattle.std.proofs.Common.{ℕ, List, subst}
use Rattle.std.proofs.lemmas.List.{take_more, take_all}
use Rattle.node_order.specs.Returns.{IsAt, IsLeastOf}
use Rattle.node_order.proofs.ReturnLaws.{at_more}
use Rattle.node_order.proofs.nearest.least_at.Goals as goal

pub loop-node-preserved : goal.loop-node-preserved
loop-node-preserved c = rw (c.lesser-least.ensures, take_more c.args.nodes.now c.loop-node.node-index 0 c.loop-node-test.true) (at_more _ _ _ _ _ _ c.loop-node.invariant c.node_at.ensures)

pub returns : goal.returns
returns c = subst (λ (nodes : List ℕ). IsLeastOf (IsAt nodes c.args.found.now c.args.steps) c.loop-node.least) (take_all c.loop-node.node-index c.args.nodes.now c.loop-node-test.false) c.loop-node.invariant

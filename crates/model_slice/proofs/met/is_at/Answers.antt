use Rattle.std.proofs.Common.{◌&&◌, length, get_or, sym, ap, ◌∙◌}
use Rattle.ut_logic.specs.Node.{node_eq}
use Rattle.model_slice.proofs.MetLaws.{at_place, is_below, not_below}
use Rattle.model_slice.proofs.met.is_at.Goals as goal

pub returns-then-place-nodes : goal.returns-then-place-nodes
returns-then-place-nodes c = let nodes = c.args.nodes.now in let d = c.args.node in let there = get_or nodes c.args.place d in
    c.eq.ensures ∙ (ap (λ m. node_eq m c.args.node) (sym (c.node_at.ensures d))
    ∙ (ap (λ b. b && node_eq there c.args.node) (sym (is_below c.args.place (length nodes) c.if-place-nodes.true)) ∙ at_place nodes c.args.place c.args.node d))

pub returns-else-place-nodes : goal.returns-else-place-nodes
returns-else-place-nodes c = let nodes = c.args.nodes.now in let d = c.args.node in let there = get_or nodes c.args.place d in
    let past = not_below c.args.place (length nodes) c.if-place-nodes.false in
    past ∙ (sym (ap (λ b. b && node_eq there c.args.node) past) ∙ at_place nodes c.args.place c.args.node d)

use Rattle.std.proofs.Common.{◌<◌, ◌∙◌, None, length, sym, arith}
use Rattle.std.proofs.lemmas.List.{get_or_read}
use Rattle.node_order.proofs.LayerLaws.{adds_known, adds_unknown}
use Rattle.node_order.proofs.distance.add_one.Goals as goal

pub returns-in-Some : goal.returns-in-Some
returns-in-Some c =
    let h : c.args.node < length c.args.found.now.items = omega (arith, c.requires, c.args.found.now.ok.0) in
    adds_known _ _ _ c.in-Some.field-0 _ (sym (get_or_read _ _ _ h c.index.ensures None) ∙ c.in-Some.is)

pub returns-in_ok-push-in-None : goal.returns-in_ok-push-in-None
returns-in_ok-push-in-None c =
    let h : c.args.node < length c.args.found.now.items = omega (arith, c.requires, c.args.found.now.ok.0) in
    rw c.in_ok-push-in-None.ensures.items (adds_unknown _ _ _ _ h (sym (get_or_read _ _ _ h c.index.ensures None) ∙ c.in-None.is))

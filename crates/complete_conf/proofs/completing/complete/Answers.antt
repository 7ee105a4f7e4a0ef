use Rattle.std.proofs.Common.{refl, sym, ap, subst, ◌∙◌}
use Rattle.kconf_tree.specs.Value.{Configuration}
use Rattle.kconf_tree.specs.Valid.{KeepsRules}
use Rattle.complete_conf.specs.Completion.{completed}
use Rattle.complete_conf.specs.Config.{by_lists}
use Rattle.complete_conf.specs.Parts.{part_of, AgreeOn, IsRest}
use Rattle.complete_conf.proofs.PartLaws.{kept}
use Rattle.complete_conf.proofs.Extremes.{values_small}
use Rattle.complete_conf.proofs.Rules.{rest, values_kept, valid_by}
use Rattle.complete_conf.proofs.completing.complete.Goals as goal

pub returns-clause-kept : goal.returns-clause-kept
returns-clause-kept c = let t = c.args.tree.now.shape in let p = part_of c.args.known.now in let old = by_lists c.args.config.now in
    let whole = c.complete_nodes.ensures.value ∙ ap (completed t p old) c.order.ensures.list in
    subst (λ (d : Configuration). AgreeOn p old d) (sym whole) (kept t p old c.args.tree.now.order)

pub returns-clause-rest : goal.returns-clause-rest
returns-clause-rest c = let t = c.args.tree.now.shape in let p = part_of c.args.known.now in let old = by_lists c.args.config.now in
    let whole = c.complete_nodes.ensures.value ∙ ap (completed t p old) c.order.ensures.list in let a = c.order.ensures.tree in
    subst (λ (d : Configuration). IsRest t p d) (sym whole) (rest t c.args.tree.now.order p old a.made a.ordered)

pub returns-clause-valid : goal.returns-clause-valid
returns-clause-valid c = λ closed right. let t = c.args.tree.now.shape in let p = part_of c.args.known.now in let old = by_lists c.args.config.now in
    let whole = c.complete_nodes.ensures.value ∙ ap (completed t p old) c.order.ensures.list in let a = c.order.ensures.tree in
    record {
      rules = subst (λ (d : Configuration). KeepsRules t d) (sym whole) (valid_by t p old (completed t p old c.args.tree.now.order) (values_kept t p old (values_small c.args.config.now) c.args.tree.now.order) a.made closed right (kept t p old c.args.tree.now.order) (rest t c.args.tree.now.order p old a.made a.ordered));
      undeclared_are_n = λ name. refl;
    }

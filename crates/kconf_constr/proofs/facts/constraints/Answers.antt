use Rattle.std.proofs.lemmas.Result.{IfOk-weaker}
use Rattle.kconf_constr.specs.Scope.{whole}
use Rattle.kconf_constr.proofs.ValidLaws.{means_of, valid_of}
use Rattle.kconf_constr.proofs.ClosedLaws.{closed_of, named_of}
use Rattle.kconf_constr.proofs.OuterLaws.{outers_of}
use Rattle.kconf_constr.proofs.FoldedLaws.{folded_facts}
use Rattle.kconf_constr.proofs.HeldDepth.{shallow_facts}
use Rattle.kconf_constr.proofs.facts.constraints.Goals as goal

pub returns-clause-closed : goal.returns-clause-closed
returns-clause-closed c = IfOk-weaker c.facts.result _ _ (λ f h. closed_of c.whole.result (whole c.args.tree.now.shape) f.list h c.whole.ensures c.order-order.ensures.tree.made) c.facts.ensures

pub returns-clause-named : goal.returns-clause-named
returns-clause-named c = IfOk-weaker c.facts.result _ _ (λ f h. named_of c.whole.result (whole c.args.tree.now.shape) f.list h c.whole.ensures c.order-order.ensures.tree.made) c.facts.ensures

pub returns-clause-means : goal.returns-clause-means
returns-clause-means c = IfOk-weaker c.facts.result _ _ (λ f h. means_of c.whole.result (whole c.args.tree.now.shape) f.list h c.whole.ensures c.order-order.ensures.tree.made) c.facts.ensures

pub returns-clause-valid : goal.returns-clause-valid
returns-clause-valid c = IfOk-weaker c.facts.result _ _ (λ f h. valid_of c.whole.result c.args.tree.now.shape f.list h c.whole.ensures c.order-order.ensures.tree.made) c.facts.ensures

pub returns-clause-depth : goal.returns-clause-depth
returns-clause-depth c = IfOk-weaker c.facts.result _ _ (λ f h. shallow_facts c.whole.result (whole c.args.tree.now.shape) f.list h c.whole.ensures) c.facts.ensures

pub returns-clause-outers : goal.returns-clause-outers
returns-clause-outers c = IfOk-weaker c.facts.result _ _ (λ f h. outers_of c.whole.result f.list h) c.facts.ensures

pub returns-clause-folded : goal.returns-clause-folded
returns-clause-folded c = IfOk-weaker c.facts.result _ _ (λ f h. folded_facts c.whole.result f.list h) c.facts.ensures

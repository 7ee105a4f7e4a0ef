use Rattle.std.proofs.lemmas.Result.{IfOk-weaker}
use Rattle.kconf_constr.specs.Scope.{with_undeclared}
use Rattle.kconf_constr.proofs.ValidLaws.{means_of, keeps_of}
use Rattle.kconf_constr.proofs.ClosedLaws.{closed_of, named_of}
use Rattle.kconf_constr.proofs.OuterLaws.{outers_of}
use Rattle.kconf_constr.proofs.FoldedLaws.{folded_facts}
use Rattle.kconf_constr.proofs.HeldDepth.{shallow_facts}
use Rattle.kconf_constr.proofs.facts.free_constraints.Goals as goal

pub returns-clause-closed : goal.returns-clause-closed
returns-clause-closed c = IfOk-weaker c.facts.result _ _ (λ f h. closed_of c.with_undeclared.result (with_undeclared c.args.tree.now.shape c.args.undeclared.now) f.list h c.with_undeclared.ensures c.order-order.ensures.tree.made) c.facts.ensures

pub returns-clause-named : goal.returns-clause-named
returns-clause-named c = IfOk-weaker c.facts.result _ _ (λ f h. named_of c.with_undeclared.result (with_undeclared c.args.tree.now.shape c.args.undeclared.now) f.list h c.with_undeclared.ensures c.order-order.ensures.tree.made) c.facts.ensures

pub returns-clause-means : goal.returns-clause-means
returns-clause-means c = IfOk-weaker c.facts.result _ _ (λ f h. means_of c.with_undeclared.result (with_undeclared c.args.tree.now.shape c.args.undeclared.now) f.list h c.with_undeclared.ensures c.order-order.ensures.tree.made) c.facts.ensures

pub returns-clause-valid : goal.returns-clause-valid
returns-clause-valid c = IfOk-weaker c.facts.result _ _ (λ f h. keeps_of c.with_undeclared.result (with_undeclared c.args.tree.now.shape c.args.undeclared.now) f.list h c.with_undeclared.ensures c.order-order.ensures.tree.made) c.facts.ensures

pub returns-clause-depth : goal.returns-clause-depth
returns-clause-depth c = IfOk-weaker c.facts.result _ _ (λ f h. shallow_facts c.with_undeclared.result (with_undeclared c.args.tree.now.shape c.args.undeclared.now) f.list h c.with_undeclared.ensures) c.facts.ensures

pub returns-clause-outers : goal.returns-clause-outers
returns-clause-outers c = IfOk-weaker c.facts.result _ _ (λ f h. outers_of c.with_undeclared.result f.list h) c.facts.ensures

pub returns-clause-folded : goal.returns-clause-folded
returns-clause-folded c = IfOk-weaker c.facts.result _ _ (λ f h. folded_facts c.with_undeclared.result f.list h) c.facts.ensures

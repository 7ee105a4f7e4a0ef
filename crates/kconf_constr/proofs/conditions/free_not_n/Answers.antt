use Rattle.std.proofs.lemmas.Result.{IfOk-weaker}
use Rattle.kconf_constr.specs.Scope.{with_undeclared}
use Rattle.kconf_constr.proofs.ValueLaws.{not_n_of}
use Rattle.kconf_constr.specs.declared.level.Level.TheVariants.{NotN}
use Rattle.kconf_constr.proofs.ClosedLaws.{mentions_of}
use Rattle.kconf_constr.proofs.DepthLaws.{shallow_of}
use Rattle.kconf_constr.proofs.FoldedLaws.{folded_of}
use Rattle.kconf_tree.specs.declared.place.Place.TheVariants.{Condition}
use Rattle.kconf_constr.proofs.conditions.free_not_n.Goals as goal

pub returns-clause-means : goal.returns-clause-means
returns-clause-means c = IfOk-weaker c.formula_in.result _ _ (λ f h v. not_n_of c.with_undeclared.result (with_undeclared c.args.tree.now.shape c.args.undeclared.now) c.args.e.now f h c.with_undeclared.ensures v) c.formula_in.ensures

pub returns-clause-mentions : goal.returns-clause-mentions
returns-clause-mentions c = IfOk-weaker c.formula_in.result _ _ (λ f h. mentions_of c.with_undeclared.result (with_undeclared c.args.tree.now.shape c.args.undeclared.now) c.args.e.now NotN f h c.with_undeclared.ensures) c.formula_in.ensures

pub returns-clause-depth : goal.returns-clause-depth
returns-clause-depth c = IfOk-weaker c.formula_in.result _ _ (λ f h. shallow_of c.with_undeclared.result Condition NotN c.args.e.now f h) c.formula_in.ensures

pub returns-clause-folded : goal.returns-clause-folded
returns-clause-folded c = IfOk-weaker c.formula_in.result _ _ (λ f h. folded_of c.with_undeclared.result Condition NotN c.args.e.now f h) c.formula_in.ensures

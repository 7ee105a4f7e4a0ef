use Rattle.std.proofs.lemmas.Result.{IfOk-weaker}
use Rattle.kconf_constr.specs.Scope.{whole}
use Rattle.kconf_constr.proofs.WrittenLaws.{writes_of, owns_of}
use Rattle.kconf_constr.proofs.writing.written.Goals as goal

pub returns-clause-mentions : goal.returns-clause-mentions
returns-clause-mentions c = IfOk-weaker c.written.result _ _ (λ f h. owns_of c.whole.result (whole c.args.tree.now.shape) c.args.sym f h c.whole.ensures) c.written.ensures

pub returns-clause-means : goal.returns-clause-means
returns-clause-means c = IfOk-weaker c.written.result _ _ (λ f h. writes_of c.whole.result (whole c.args.tree.now.shape) c.args.sym f h c.whole.ensures) c.written.ensures

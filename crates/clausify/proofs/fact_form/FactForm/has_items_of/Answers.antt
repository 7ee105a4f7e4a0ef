use Rattle.std.proofs.Common.{IsTrue, ◌↔◌, subst}
use Rattle.clausify.specs.Order.{AreOver}
use Rattle.clausify.specs.Begun.{Begun}
use Rattle.clausify.proofs.fact_form.FactForm.has_items_of.Goals as goal

pub returns : goal.returns
returns c = subst (λ (b : Begun). IsTrue c.in_ok-all.all ↔ AreOver b.items c.args.wish.now) c.self.view_is c.in_ok-all.ensures

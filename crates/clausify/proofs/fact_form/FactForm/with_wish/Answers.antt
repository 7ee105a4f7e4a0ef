use Rattle.std.proofs.Common.{List, sym, ap, subst, ◌∙◌}
use Rattle.ut_logic.specs.declared.item.Item.{Item}
use Rattle.clausify.specs.Order.{AreOver}
use Rattle.clausify.specs.Begun.{Begun, IsFormOf, IsBegun}
use Rattle.clausify.proofs.BegunLaws.{drafted_again, drafted_as}
use Rattle.clausify.proofs.fact_form.FactForm.with_wish.Goals as goal

pub with_wish-requires-clause-drafted : goal.with_wish-requires-clause-drafted
with_wish-requires-clause-drafted c = let some = c.self.invariant in (
  some.held,
  some.facts,
  drafted_as some.held some.facts c.self.inside.items.keys _ c.in_ok-draft.draft.written _ c.in_ok-draft.draft.clauses.items
      c.in_ok-draft.ensures.written (c.in_ok-draft.ensures.clauses ∙ c.deref.ensures.value) (drafted_again some.held some.facts _ some.begun),
)

pub with_wish-requires-clause-wish : goal.with_wish-requires-clause-wish
with_wish-requires-clause-wish c = subst (λ (is : List Item). AreOver is c.args.wish.now) (sym (ap (λ (b : Begun). b.items) c.self.view_is)) c.requires

pub returns-clause-items : goal.returns-clause-items
returns-clause-items c = c.in_ok-cnf.ensures.items ∙ ap (λ (b : Begun). b.items) c.self.view_is

pub returns-clause-form : goal.returns-clause-form
returns-clause-form c = λ held fs begun.
    subst (λ (is : List Item). IsFormOf held fs c.args.wish.now is c.in_ok-cnf.cnf.vars c.in_ok-cnf.cnf.clauses) (sym c.in_ok-cnf.ensures.items)
    (c.in_ok-cnf.ensures.form held fs (drafted_as held fs c.self.inside.items.keys _ c.in_ok-draft.draft.written _ c.in_ok-draft.draft.clauses.items
    c.in_ok-draft.ensures.written (c.in_ok-draft.ensures.clauses ∙ c.deref.ensures.value) (drafted_again held fs _ (subst (IsBegun held fs) (sym c.self.view_is) begun))))

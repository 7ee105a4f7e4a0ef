use Rattle.std.proofs.Common.{List, Bor, map, refl, sym, ap, subst, ◌∙◌}
use Rattle.ut_logic.specs.declared.item.Item.{Item}
use Rattle.ut_logic.specs.declared.node.Node.{Node}
use Rattle.ut_logic.specs.declared.facts.Fact.{Fact}
use Rattle.std.specs.Prelude.{IsSorted}
use Rattle.ut_logic.specs.Assign.{is_in}
use Rattle.ut_logic.specs.Item.{item_cmp}
use Rattle.clausify.specs.Order.{facts_of}
use Rattle.clausify.specs.Begun.{IsFormOf}
use Rattle.clausify.proofs.BegunLaws.{made_members, made_held, made_facts, made_wish, made_draft}
use Rattle.clausify.proofs.form.clauses_in.Goals as goal

pub drafted-requires-clause-held : goal.drafted-requires-clause-held
drafted-requires-clause-held g c = let all = g.S.FindFact.facts c.args.store.now in let now : Bor Fact → Fact = λ f. f.now in
    let found = c.in_ok-facts.ensures ∙ ap (λ (ns : List Node). facts_of all ns) c.as_slice.ensures in
    made_held c.args.held.now (facts_of all c.args.slice.now.nodes) _ _ c.args.wish.now c.in_ok-items.items.keys c.in_ok-items.items.keys
    (ap (λ (fs : List (Bor Fact)). map now fs) c.deref.ensures.value ∙ found) (ap (λ (fs : List (Bor Fact)). map now fs) c.deref-2.ensures.value ∙ found)
    refl c.in_ok-items.ensures.members c.requires.listed c.requires.held

pub drafted-requires-clause-facts : goal.drafted-requires-clause-facts
drafted-requires-clause-facts g c = let all = g.S.FindFact.facts c.args.store.now in let now : Bor Fact → Fact = λ f. f.now in
    let found = c.in_ok-facts.ensures ∙ ap (λ (ns : List Node). facts_of all ns) c.as_slice.ensures in
    made_facts c.args.held.now (facts_of all c.args.slice.now.nodes) _ _ c.args.wish.now c.in_ok-items.items.keys c.in_ok-items.items.keys
    (ap (λ (fs : List (Bor Fact)). map now fs) c.deref.ensures.value ∙ found) (ap (λ (fs : List (Bor Fact)). map now fs) c.deref-2.ensures.value ∙ found)
    refl c.in_ok-items.ensures.members c.requires.listed c.requires.held

pub with_wish-requires-clause-drafted : goal.with_wish-requires-clause-drafted
with_wish-requires-clause-drafted g c = let all = g.S.FindFact.facts c.args.store.now in let now : Bor Fact → Fact = λ f. f.now in
    let found = c.in_ok-facts.ensures ∙ ap (λ (ns : List Node). facts_of all ns) c.as_slice.ensures in (
      c.args.held.now,
      facts_of all c.args.slice.now.nodes,
      made_draft c.args.held.now (facts_of all c.args.slice.now.nodes) _ _ c.args.wish.now c.in_ok-items.items.keys c.in_ok-items.items.keys
          (ap (λ (fs : List (Bor Fact)). map now fs) c.deref.ensures.value ∙ found) (ap (λ (fs : List (Bor Fact)). map now fs) c.deref-2.ensures.value ∙ found)
          refl c.in_ok-items.ensures.members c.requires.listed c.requires.held
          c.in_ok-draft.draft.written c.in_ok-draft.draft.clauses.items c.in_ok-draft.ensures.draft c.in_ok-draft.ensures.settled,
    )

pub with_wish-requires-clause-wish : goal.with_wish-requires-clause-wish
with_wish-requires-clause-wish g c = let all = g.S.FindFact.facts c.args.store.now in let now : Bor Fact → Fact = λ f. f.now in
    let found = c.in_ok-facts.ensures ∙ ap (λ (ns : List Node). facts_of all ns) c.as_slice.ensures in
    made_wish c.args.held.now (facts_of all c.args.slice.now.nodes) _ _ c.args.wish.now c.in_ok-items.items.keys c.in_ok-items.items.keys
    (ap (λ (fs : List (Bor Fact)). map now fs) c.deref.ensures.value ∙ found) (ap (λ (fs : List (Bor Fact)). map now fs) c.deref-2.ensures.value ∙ found)
    refl c.in_ok-items.ensures.members c.requires.listed c.requires.held c.requires.wish

pub returns-clause-sorted : goal.returns-clause-sorted
returns-clause-sorted g c = subst (λ (is : List Item). IsSorted item_cmp is) (sym c.in_ok-cnf.ensures.items) c.in_ok-items.ensures.sorted

pub returns-clause-items : goal.returns-clause-items
returns-clause-items g c = let all = g.S.FindFact.facts c.args.store.now in let now : Bor Fact → Fact = λ f. f.now in
    let found = c.in_ok-facts.ensures ∙ ap (λ (ns : List Node). facts_of all ns) c.as_slice.ensures in
    λ i. ap (λ (is : List Item). is_in is i) c.in_ok-cnf.ensures.items ∙ made_members c.args.held.now (facts_of all c.args.slice.now.nodes) _ _ c.args.wish.now c.in_ok-items.items.keys c.in_ok-items.items.keys
    (ap (λ (fs : List (Bor Fact)). map now fs) c.deref.ensures.value ∙ found) (ap (λ (fs : List (Bor Fact)). map now fs) c.deref-2.ensures.value ∙ found)
    refl c.in_ok-items.ensures.members c.requires.listed c.requires.held i

pub returns-clause-form : goal.returns-clause-form
returns-clause-form g c = let all = g.S.FindFact.facts c.args.store.now in let now : Bor Fact → Fact = λ f. f.now in
    let found = c.in_ok-facts.ensures ∙ ap (λ (ns : List Node). facts_of all ns) c.as_slice.ensures in
    subst (λ (is : List Item). IsFormOf c.args.held.now (facts_of all c.args.slice.now.nodes) c.args.wish.now is c.in_ok-cnf.cnf.vars c.in_ok-cnf.cnf.clauses) (sym c.in_ok-cnf.ensures.items)
    (c.in_ok-cnf.ensures.form c.args.held.now (facts_of all c.args.slice.now.nodes)
    (made_draft c.args.held.now (facts_of all c.args.slice.now.nodes) _ _ c.args.wish.now c.in_ok-items.items.keys c.in_ok-items.items.keys
    (ap (λ (fs : List (Bor Fact)). map now fs) c.deref.ensures.value ∙ found) (ap (λ (fs : List (Bor Fact)). map now fs) c.deref-2.ensures.value ∙ found)
    refl c.in_ok-items.ensures.members c.requires.listed c.requires.held
    c.in_ok-draft.draft.written c.in_ok-draft.draft.clauses.items c.in_ok-draft.ensures.draft c.in_ok-draft.ensures.settled))

use Rattle.std.proofs.Common.{List, [], ℕ, Bor, map, refl, ap, subst, sym, ◌∙◌}
use Rattle.ut_logic.specs.declared.node.Node.{Node}
use Rattle.ut_logic.specs.declared.facts.Fact.{Fact}
use Rattle.clausify.specs.Order.{facts_of}
use Rattle.clausify.specs.Begun.{IsBegun}
use Rattle.clausify.proofs.BegunLaws.{made_held, made_facts, made_begun}
use Rattle.clausify.proofs.fact_form.FactForm.of.Goals as goal

pub drafted-requires-clause-held : goal.drafted-requires-clause-held
drafted-requires-clause-held g c = let all = g.S.FindFact.facts c.args.store.now in let now : Bor Fact → Fact = λ f. f.now in
    let found = c.in_ok-facts.ensures ∙ ap (λ (ns : List Node). facts_of all ns) c.as_slice.ensures in
    made_held c.args.held.now (facts_of all c.args.slice.now.nodes) _ _ [] c.in_ok-items.items.keys c.in_ok-items.items.keys
    (ap (λ (fs : List (Bor Fact)). map now fs) c.deref.ensures.value ∙ found) (ap (λ (fs : List (Bor Fact)). map now fs) c.deref-2.ensures.value ∙ found)
    refl c.in_ok-items.ensures.members c.requires.listed c.requires.held

pub drafted-requires-clause-facts : goal.drafted-requires-clause-facts
drafted-requires-clause-facts g c = let all = g.S.FindFact.facts c.args.store.now in let now : Bor Fact → Fact = λ f. f.now in
    let found = c.in_ok-facts.ensures ∙ ap (λ (ns : List Node). facts_of all ns) c.as_slice.ensures in
    made_facts c.args.held.now (facts_of all c.args.slice.now.nodes) _ _ [] c.in_ok-items.items.keys c.in_ok-items.items.keys
    (ap (λ (fs : List (Bor Fact)). map now fs) c.deref.ensures.value ∙ found) (ap (λ (fs : List (Bor Fact)). map now fs) c.deref-2.ensures.value ∙ found)
    refl c.in_ok-items.ensures.members c.requires.listed c.requires.held

pub invariant_of-result : goal.invariant_of-result
invariant_of-result g c = let all = g.S.FindFact.facts c.args.store.now in let now : Bor Fact → Fact = λ f. f.now in
    let found = c.in_ok-facts.ensures ∙ ap (λ (ns : List Node). facts_of all ns) c.as_slice.ensures in record {
      held = c.args.held.now;
      facts = facts_of all c.args.slice.now.nodes;
      begun = subst (λ (n : ℕ). IsBegun c.args.held.now (facts_of all c.args.slice.now.nodes) (record { items = c.in_ok-items.items.keys; vars = n; clauses = c.in_ok-draft.draft.clauses.items })) (sym c.vars.ensures)
          (made_begun c.args.held.now (facts_of all c.args.slice.now.nodes) _ _ [] c.in_ok-items.items.keys c.in_ok-items.items.keys
          (ap (λ (fs : List (Bor Fact)). map now fs) c.deref.ensures.value ∙ found) (ap (λ (fs : List (Bor Fact)). map now fs) c.deref-2.ensures.value ∙ found)
          refl c.in_ok-items.ensures.members c.requires.listed c.requires.held
          c.in_ok-draft.draft.written c.in_ok-draft.draft.clauses.items c.in_ok-draft.ensures.draft c.in_ok-draft.ensures.settled refl c.in_ok-items.ensures.sorted);
    }

pub returns : goal.returns
returns g c = let all = g.S.FindFact.facts c.args.store.now in let now : Bor Fact → Fact = λ f. f.now in
    let found = c.in_ok-facts.ensures ∙ ap (λ (ns : List Node). facts_of all ns) c.as_slice.ensures in
    subst (λ (n : ℕ). IsBegun c.args.held.now (facts_of all c.args.slice.now.nodes) (record { items = c.in_ok-items.items.keys; vars = n; clauses = c.in_ok-draft.draft.clauses.items })) (sym c.vars.ensures)
    (made_begun c.args.held.now (facts_of all c.args.slice.now.nodes) _ _ [] c.in_ok-items.items.keys c.in_ok-items.items.keys
    (ap (λ (fs : List (Bor Fact)). map now fs) c.deref.ensures.value ∙ found) (ap (λ (fs : List (Bor Fact)). map now fs) c.deref-2.ensures.value ∙ found)
    refl c.in_ok-items.ensures.members c.requires.listed c.requires.held
    c.in_ok-draft.draft.written c.in_ok-draft.draft.clauses.items c.in_ok-draft.ensures.draft c.in_ok-draft.ensures.settled refl c.in_ok-items.ensures.sorted)

use Rattle.std.proofs.Common.{sym, ap, ◌∙◌, ◌++◌, ◌∷◌, [], List, map, Bor}
use Rattle.std.proofs.lemmas.List.{map-append, append-nil}
use Rattle.ut_logic.specs.declared.facts.Fact.{Fact}
use Rattle.std.specs.Option.{option_copied}
use Rattle.clausify.proofs.FactLaws.{as_list, fact_first}
use Rattle.clausify.proofs.chosen.add_fact.Goals as goal

pub returns-in_ok-push-in-Some : goal.returns-in_ok-push-in-Some
returns-in_ok-push-in-Some g c = let facts = g.S.FindFact.facts c.args.store.now in let now : Bor Fact → Fact = λ f. f.now in
    ap (λ (fs : List (Bor Fact)). map now fs) c.in_ok-push-in-Some.ensures.items
    ∙ (map-append now c.args.found.now.items (c.in-Some.fact ∷ [])
    ∙ ap (λ (fs : List Fact). map now c.args.found.now.items ++ fs)
    (ap (λ o. as_list (option_copied o)) (sym c.in-Some.is) ∙ (ap as_list c.fact.ensures ∙ sym (fact_first facts c.args.node))))

pub returns-in-None : goal.returns-in-None
returns-in-None g c = let facts = g.S.FindFact.facts c.args.store.now in let now : Bor Fact → Fact = λ f. f.now in
    sym (append-nil (map now c.args.found.now.items))
    ∙ ap (λ (fs : List Fact). map now c.args.found.now.items ++ fs)
    (ap (λ o. as_list (option_copied o)) (sym c.in-None.is) ∙ (ap as_list c.fact.ensures ∙ sym (fact_first facts c.args.node)))

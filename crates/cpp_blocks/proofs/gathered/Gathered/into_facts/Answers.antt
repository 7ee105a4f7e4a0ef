use Rattle.std.proofs.Common.{Vec, Global, ◌≡◌, ◌++◌, List, sym, ap, ◌∙◌}
use Rattle.std.specs.List.{flat_map}
use Rattle.std.proofs.lemmas.Iterator.Adapters.{YieldsList-from_vec}
use Rattle.std.proofs.lemmas.Iterator.Consumers.{YieldsList-end}
use Rattle.std.proofs.lemmas.List.{map-id}
use Rattle.std.proofs.lemmas.List.Folds.{flat_map-map}
use Rattle.ut_logic.specs.declared.facts.Fact.{Fact}
use Rattle.cpp_blocks.specs.Gathered.{all_gathered}
use Rattle.cpp_blocks.proofs.gathered.Gathered.into_facts.Goals as goal

pub returns : goal.returns
returns c =
    let gives = c.into_iter-list-iterator.ensures.into_iter_gives in
    let end = YieldsList-end (YieldsList-from_vec {s = c.into_iter-list-iterator.result} c.self.inside.states.items gives.0 (gives.1 ∙ c.self.inside.states.ok.0)) c.loop-list.yielded c.loop-list.list-iterator c.loop-list.yielded_by c.next.result c.next.new.self c.in-None.is c.next.ensures.steps in
    let all : c.loop-list.yielded ≡ c.self.inside.states.items = sym (map-id c.loop-list.yielded) ∙ end.0 in
    c.from_vec.ensures ∙ (c.loop-list.invariant
    ∙ (ap (λ (lists : List (Vec Fact Global)). c.self.inside.blocks.items ++ flat_map (λ list. list.items) lists) all
    ∙ (ap (λ xs. c.self.inside.blocks.items ++ xs) (sym (flat_map-map (λ (list : List Fact). list) (λ (list : Vec Fact Global). list.items) c.self.inside.states.items))
    ∙ ap all_gathered c.self.view_is)))

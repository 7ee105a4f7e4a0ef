use Rattle.std.proofs.Common.{List, Bor, map, ◌++◌, ap, ◌∙◌}
use Rattle.ut_logic.specs.declared.item.Item.{Item}
use Rattle.ut_logic.specs.declared.node.Node.{Node}
use Rattle.ut_logic.specs.declared.facts.Fact.{Fact}
use Rattle.ut_logic.specs.Assign.{is_in}
use Rattle.ut_logic.specs.Truth.{mentioned, together}
use Rattle.clausify.specs.Order.{facts_of, items_of, mentioned_in}
use Rattle.clausify.proofs.KnownLaws.{told}
use Rattle.clausify.proofs.listed.are_listed_in.Goals as goal

pub returns : goal.returns
returns g c =
    let all = g.S.FindFact.facts c.args.store.now in
    let found = c.in_ok-chosen.ensures ∙ ap (λ (ns : List Node). facts_of all ns) c.as_slice.ensures in
    let here = ap (λ (fs : List (Bor Fact)). map (λ (f : Bor Fact). f.now) fs) c.deref.ensures.value ∙ found in
    let there = ap (λ (fs : List (Bor Fact)). map (λ (f : Bor Fact). f.now) fs) c.deref-3.ensures.value ∙ found in
    told (facts_of all c.args.slice.now.nodes) c.args.held.now c.args.wish.now c.in_ok-known.known.keys c.deref-4.result.now c.deref-5.result.now
    (λ i. c.in_ok-known.ensures.members i ∙ ap (λ (items : List Item). is_in items i) (c.deref-2.ensures.value ∙ (c.in_ok-items.ensures ∙ ap items_of here)))
    (c.deref-4.ensures.value ∙ (c.in_ok-mention_each.ensures ∙ ap (λ (items : List Item). items ++ together (map mentioned c.args.held.now))
    (c.in_ok-mention_facts.ensures ∙ (ap (λ (items : List Item). items ++ mentioned_in (map (λ (f : Bor Fact). f.now) c.deref-3.result.now)) c.new-mentioned.ensures.items ∙ ap mentioned_in there))))
    (c.deref-5.ensures.value ∙ (c.in_ok-mention_each-2.ensures ∙ ap (λ (items : List Item). items ++ together (map mentioned c.args.wish.now)) c.new-wished.ensures.items))
    c.all_known.result c.all_known.ensures

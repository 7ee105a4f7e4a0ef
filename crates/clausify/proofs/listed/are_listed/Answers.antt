use Rattle.std.proofs.Common.{List, [], IsTrue, ◌↔◌, subst}
use Rattle.ut_logic.specs.declared.facts.Fact.{Fact}
use Rattle.clausify.specs.Order.{facts_of, items_of, AreListed, AreOver, IsWishOver}
use Rattle.clausify.proofs.KnownLaws.{none_held}
use Rattle.clausify.proofs.listed.are_listed.Goals as goal

pub returns : goal.returns
returns c = let nodes = c.args.slice.now.nodes in let all = c.args.facts.now.list in
    let both = subst (λ (fs : List Fact). IsTrue c.in_ok-known.known ↔ (AreListed (facts_of fs nodes) × (AreOver (items_of (facts_of fs nodes)) [] × IsWishOver (facts_of fs nodes) c.args.wish.now))) c.in_ok-store.ensures c.in_ok-known.ensures in (
      λ t. let three = both.0 t in (three.0, three.1.1),
      λ l. both.1 (l.0, (none_held (items_of (facts_of all nodes)), l.1)),
    )

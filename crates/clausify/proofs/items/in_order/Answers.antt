use Rattle.std.proofs.Common.{sym, ◌∙◌}
use Rattle.clausify.proofs.InSet.{is_in-any}
use Rattle.clausify.proofs.items.in_order.Goals as goal

pub returns-clause-members : goal.returns-clause-members
returns-clause-members c = λ i. sym (is_in-any _ i) ∙ (c.in_ok-sort_unstable.ensures.reordered.2 i ∙ (is_in-any _ i ∙ c.in_ok-set.ensures.members i))

use Rattle.std.proofs.Common.{length, sym, ◌∙◌}
use Rattle.std.proofs.lemmas.Bool.{false≢true}
use Rattle.ut_logic.specs.ItemIdentity.{item_eq-Decides}
use Rattle.clausify.proofs.NumberedLaws.{not_below}
use Rattle.clausify.proofs.variables.stands_at.Goals as goal

pub returns-then-place-items-clause-within : goal.returns-then-place-items-clause-within
returns-then-place-items-clause-within c = λ t. c.if-place-items.true

pub returns-then-place-items-clause-is : goal.returns-then-place-items-clause-is
returns-then-place-items-clause-is c = λ t d. c.item_at.ensures d ∙ (item_eq-Decides c.item_at.result c.args.item).0 (sym c.eq.ensures ∙ t)

pub returns-else-place-items-clause-within : goal.returns-else-place-items-clause-within
returns-else-place-items-clause-within c = λ t. absurd (false≢true (sym (not_below c.args.place (length c.args.items.now) c.if-place-items.false) ∙ t))

pub returns-else-place-items-clause-is : goal.returns-else-place-items-clause-is
returns-else-place-items-clause-is c = λ t. absurd (false≢true (sym (not_below c.args.place (length c.args.items.now) c.if-place-items.false) ∙ t))

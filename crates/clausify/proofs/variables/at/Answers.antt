use Rattle.clausify.proofs.NumberedLaws.{placed}
use Rattle.clausify.proofs.variables.at.Goals as goal

pub returns-then-stands_at : goal.returns-then-stands_at
returns-then-stands_at c = placed c.args.items.now c.args.place c.args.item c.args.item c.requires (c.stands_at.ensures.within c.if-stands_at.true) (c.stands_at.ensures.is c.if-stands_at.true c.args.item)

use Rattle.std.proofs.Common.{◌≡◌, length, ap, ◌∙◌, arith}
use Rattle.std.proofs.lemmas.List.{length-set}
use Rattle.sat_log.proofs.links.Links.add_both.Goals as goal

pub add-requires-2-clause-watched : goal.add-requires-2-clause-watched
add-requires-2-clause-watched c =
    let l = c.args.self.now in
    omega (arith, c.requires.watched, c.add.ensures.slots, ap length c.add.ensures.watched, length-set l.watched.items l.slots c.args.first)

pub returns-clause-watched : goal.returns-clause-watched
returns-clause-watched c = rw (c.add.ensures.watched, c.add.ensures.slots) at c.add-2.ensures.watched

use Rattle.std.proofs.Common.{◌∷◌, [], subst}
use Rattle.sat_log.specs.Links.{IsLinked}
use Rattle.sat_log.proofs.Linking.{slot_new}
use Rattle.sat_log.proofs.links.Links.add.Goals as goal

pub put_back-requires-clause-linked : goal.put_back-requires-clause-linked
put_back-requires-clause-linked c =
    let l = c.args.self.now in
    ([], slot_new l.watched.items l.heads.items l.next.items l.slots c.args.code c.requires.linked c.requires.next c.requires.watched c.requires.few)

pub returns-clause-linked : goal.returns-clause-linked
returns-clause-linked c =
    let l = c.args.self.now in
    let h : IsLinked c.put_back.new.self c.put_back.result [] = c.put_back.ensures.linked [] (slot_new l.watched.items l.heads.items l.next.items l.slots c.args.code c.requires.linked c.requires.next c.requires.watched c.requires.few) in
    subst (λ first. IsLinked c.put_back.new.self first []) h.chain h

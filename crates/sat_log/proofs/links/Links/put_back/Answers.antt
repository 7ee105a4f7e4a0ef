use Rattle.std.proofs.Common.{◌≡◌, ◌<◌, ◌≤◌, length, get_or, ◌∙◌, arith}
use Rattle.std.proofs.lemmas.List.{get_or_default}
use Rattle.log_check.proofs.Resolvents.{contains_head}
use Rattle.sat_log.proofs.Linking.{slot_put}
use Rattle.sat_log.proofs.links.Links.put_back.Goals as goal

pub index-rest-requires : goal.index-rest-requires
index-rest-requires c =
    let l = c.args.self.now in
    let a = c.requires.linked.1 in
    omega (arith, a.inside c.args.slot (contains_head c.args.slot c.requires.linked.0), a.room, l.next.ok.0)

pub index_mut-requires : goal.index_mut-requires
index_mut-requires c =
    let l = c.args.self.now in
    let a = c.requires.linked.1 in
    omega (arith, a.inside c.args.slot (contains_head c.args.slot c.requires.linked.0), a.watch_room, l.watched.ok.0)

pub index_mut-requires-2 : goal.index_mut-requires-2
index_mut-requires-2 c =
    let l = c.args.self.now in
    let a = c.requires.linked.1 in
    omega (arith, a.inside c.args.slot (contains_head c.args.slot c.requires.linked.0), a.room, l.next.ok.0)

pub returns-clause-linked : goal.returns-clause-linked
returns-clause-linked c = λ rest a.
    let l = c.args.self.now in
    let low : c.args.slot < length l.next.items = omega (arith, a.inside c.args.slot (contains_head c.args.slot rest), a.room) in
    let rest_is : c.index-rest.result.now ≡ get_or l.next.items c.args.slot 0 = c.index-rest.ensures ∙ get_or_default l.next.items c.args.slot _ 0 low in
    let head_is : c.index.result.now ≡ get_or l.heads.items c.args.code 0 = c.index.ensures ∙ get_or_default l.heads.items c.args.code _ 0 c.requires.code in
    rw (rest_is, head_is) (slot_put l.watched.items l.heads.items l.next.items l.slots c.args.code c.args.slot rest a c.requires.code)

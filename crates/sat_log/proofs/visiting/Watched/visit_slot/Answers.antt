use Rattle.std.proofs.Common.{◌≡◌, ◌+◌, ◌*◌, ◌/◌, ◌<◌, ◌≤◌, length, get_or, refl, ap, ◌∙◌, arith}
use Rattle.std.proofs.lemmas.List.Elements.{Contains-get_or}
use Rattle.log_check.proofs.Resolvents.{contains_head}
use Rattle.sat_log.proofs.Visits.{sized_same, goes_with_conflict, goes_true, goes_forces, goes_instead, goes_false, other_range, codes_range, other_is}
use Rattle.sat_log.proofs.visiting.Watched.visit_slot.Goals as goal

pub put_back-requires-clause-linked : goal.put_back-requires-clause-linked
put_back-requires-clause-linked c = (c.requires.visit.2, c.requires.visit.3.linked)

pub returns-then-self-ne0-clause-visited : goal.returns-then-self-ne0-clause-visited
returns-then-self-ne0-clause-visited c = λ ms m rest v.
    goes_with_conflict c.args.self.now _ c.args.values.now ms m c.args.code c.args.slot rest v c.if-self-ne0.true _ refl c.put_back.ensures.watched (c.put_back.ensures.linked rest v.linked) (sized_same _ c.args.self.now _ v.sized refl c.put_back.ensures.slots c.put_back.ensures.heads refl) refl refl

pub other_slot-requires : goal.other_slot-requires
other_slot-requires c =
    let v = c.requires.visit.3 in
    omega (arith, v.linked.inside c.args.slot (contains_head c.args.slot c.requires.visit.2), v.linked.few)

pub index-other-requires : goal.index-other-requires
index-other-requires c =
    let v = c.requires.visit.3 in
    omega (arith, v.linked.inside c.args.slot (contains_head c.args.slot c.requires.visit.2), v.linked.watch_room, v.sized.slots, c.other_slot.ensures, c.args.self.now.links.watched.ok.0)

pub codes-codes-requires : goal.codes-codes-requires
codes-codes-requires c =
    let v = c.requires.visit.3 in
    omega (arith, v.linked.inside c.args.slot (contains_head c.args.slot c.requires.visit.2), v.sized.slots)

pub look-requires-clause-codes : goal.look-requires-clause-codes
look-requires-clause-codes c = λ k d h.
    let given = c.requires.visit in
    let is_other = other_is c.args.self.now c.args.values.now c.requires.visit.0 c.requires.visit.1 c.args.code c.args.slot c.requires.visit.2 c.requires.visit.3 c.index-other.result.now c.other_slot.result c.other_slot.ensures c.index-other.ensures in
    let r = codes_range c.args.self.now c.args.self.now c.args.values.now given.0 given.1 c.args.code c.args.slot given.2 given.3 c.if-self-ne0.false c.codes-codes.result.now c.codes-codes.ensures.lits _ is_other (get_or c.codes-codes.result.now k d) (Contains-get_or c.codes-codes.result.now k d h) in
    (omega (arith, r.0), r.1)

pub look-requires-clause-other : goal.look-requires-clause-other
look-requires-clause-other c =
    let given = c.requires.visit in
    let is_other = other_is c.args.self.now c.args.values.now c.requires.visit.0 c.requires.visit.1 c.args.code c.args.slot c.requires.visit.2 c.requires.visit.3 c.index-other.result.now c.other_slot.result c.other_slot.ensures c.index-other.ensures in
    let r = other_range c.args.self.now c.args.self.now c.args.values.now given.0 given.1 c.args.code c.args.slot given.2 given.3 c.if-self-ne0.false c.codes-codes.result.now c.codes-codes.ensures.lits _ is_other in
    (omega (arith, r.0), r.1)

pub put_back-requires-in-True-clause-linked : goal.put_back-requires-in-True-clause-linked
put_back-requires-in-True-clause-linked c = (c.requires.visit.2, c.requires.visit.3.linked)

pub returns-in-True-clause-visited : goal.returns-in-True-clause-visited
returns-in-True-clause-visited c = λ ms m rest v.
    let seen = rw c.in-True.is at c.look.ensures in
    let is_other = other_is c.args.self.now c.args.values.now c.requires.visit.0 c.requires.visit.1 c.args.code c.args.slot c.requires.visit.2 c.requires.visit.3 c.index-other.result.now c.other_slot.result c.other_slot.ensures c.index-other.ensures in
    goes_true c.args.self.now _ c.args.values.now ms m c.args.code c.args.slot rest v c.if-self-ne0.false c.codes-codes.result.now c.codes-codes.ensures.lits _ is_other c.args.code _ refl c.put_back-in-True.ensures.watched (c.put_back-in-True.ensures.linked rest v.linked) (sized_same _ c.args.self.now _ v.sized refl c.put_back-in-True.ensures.slots c.put_back-in-True.ensures.heads refl) refl refl refl seen

pub put_back-requires-in-Instead-clause-linked : goal.put_back-requires-in-Instead-clause-linked
put_back-requires-in-Instead-clause-linked c = (c.requires.visit.2, c.requires.visit.3.linked)

pub returns-in-Instead-clause-visited : goal.returns-in-Instead-clause-visited
returns-in-Instead-clause-visited c = λ ms m rest v.
    let seen = rw c.in-Instead.is at c.look.ensures in
    let is_other = other_is c.args.self.now c.args.values.now c.requires.visit.0 c.requires.visit.1 c.args.code c.args.slot c.requires.visit.2 c.requires.visit.3 c.index-other.result.now c.other_slot.result c.other_slot.ensures c.index-other.ensures in
    goes_instead c.args.self.now _ c.args.values.now ms m c.args.code c.args.slot rest v c.if-self-ne0.false c.codes-codes.result.now c.codes-codes.ensures.lits _ is_other c.in-Instead.instead _ refl c.put_back-in-Instead.ensures.watched (c.put_back-in-Instead.ensures.linked rest v.linked) (sized_same _ c.args.self.now _ v.sized refl c.put_back-in-Instead.ensures.slots c.put_back-in-Instead.ensures.heads refl) refl refl seen.0 seen.1 seen.2 seen.3

pub put_back-requires-in-Instead-clause-code : goal.put_back-requires-in-Instead-clause-code
put_back-requires-in-Instead-clause-code c =
    let given = c.requires.visit in
    let seen = rw c.in-Instead.is at c.look.ensures in
    let is_other = other_is c.args.self.now c.args.values.now c.requires.visit.0 c.requires.visit.1 c.args.code c.args.slot c.requires.visit.2 c.requires.visit.3 c.index-other.result.now c.other_slot.result c.other_slot.ensures c.index-other.ensures in
    let r = codes_range c.args.self.now c.args.self.now c.args.values.now given.0 given.1 c.args.code c.args.slot given.2 given.3 c.if-self-ne0.false c.codes-codes.result.now c.codes-codes.ensures.lits _ is_other c.in-Instead.instead seen.0 in
    omega (arith, r.1, given.3.sized.heads)

pub add-requires : goal.add-requires
add-requires c =
    let v = c.requires.visit.3 in
    omega (arith, v.linked.inside c.args.slot (contains_head c.args.slot c.requires.visit.2), v.sized.slots, v.sized.room)

pub put_back-requires-in-Forces-clause-linked : goal.put_back-requires-in-Forces-clause-linked
put_back-requires-in-Forces-clause-linked c = (c.requires.visit.2, c.requires.visit.3.linked)

pub returns-in-Forces-clause-visited : goal.returns-in-Forces-clause-visited
returns-in-Forces-clause-visited c = λ ms m rest v.
    let seen = rw c.in-Forces.is at c.look.ensures in
    let is_other = other_is c.args.self.now c.args.values.now c.requires.visit.0 c.requires.visit.1 c.args.code c.args.slot c.requires.visit.2 c.requires.visit.3 c.index-other.result.now c.other_slot.result c.other_slot.ensures c.index-other.ensures in
    goes_forces c.args.self.now _ c.args.values.now ms m c.args.code c.args.slot rest v c.if-self-ne0.false c.codes-codes.result.now c.codes-codes.ensures.lits _ is_other c.args.code _ refl c.put_back-in-Forces.ensures.watched (c.put_back-in-Forces.ensures.linked rest v.linked) (sized_same _ c.args.self.now _ v.sized refl c.put_back-in-Forces.ensures.slots c.put_back-in-Forces.ensures.heads c.add.ensures.room) refl refl c.add.ensures.kept c.add.ensures.only c.add.ensures.added seen.0 seen.1

pub put_back-requires-in-False-clause-linked : goal.put_back-requires-in-False-clause-linked
put_back-requires-in-False-clause-linked c = (c.requires.visit.2, c.requires.visit.3.linked)

pub returns-in-False-clause-visited : goal.returns-in-False-clause-visited
returns-in-False-clause-visited c = λ ms m rest v.
    let seen = rw c.in-False.is at c.look.ensures in
    let is_other = other_is c.args.self.now c.args.values.now c.requires.visit.0 c.requires.visit.1 c.args.code c.args.slot c.requires.visit.2 c.requires.visit.3 c.index-other.result.now c.other_slot.result c.other_slot.ensures c.index-other.ensures in
    goes_false c.args.self.now _ c.args.values.now ms m c.args.code c.args.slot rest v c.if-self-ne0.false c.codes-codes.result.now c.codes-codes.ensures.lits _ is_other c.args.code _ refl c.put_back-in-False.ensures.watched (c.put_back-in-False.ensures.linked rest v.linked) (sized_same _ c.args.self.now _ v.sized refl c.put_back-in-False.ensures.slots c.put_back-in-False.ensures.heads refl) refl (ap (λ n. n + 1) c.from.ensures) refl seen.0 seen.1

use Rattle.std.proofs.Common.{refl, ◌∙◌, arith}
use Rattle.sat_log.proofs.Visits.{visit_begins, visit_next, visit_more, visit_left, visit_done}
use Rattle.sat_log.proofs.visiting.Watched.visit.Goals as goal

pub take_list-slot-requires-clause-linked : goal.take_list-slot-requires-clause-linked
take_list-slot-requires-clause-linked c = c.requires.visit.2.linked

pub loop-slot-init : goal.loop-slot-init
loop-slot-init c = record {
  store = refl;
  heads = c.take_list-slot.ensures.taken.heads;
  visiting = λ ms m t. visit_begins _ _ _ ms m _ _ t refl c.take_list-slot.ensures.taken refl refl;
}

pub visit_slot-slot-requires-clause-visit : goal.visit_slot-slot-requires-clause-visit
visit_slot-slot-requires-clause-visit c =
    let given = c.requires.visit in
    let next = visit_next _ _ given.0 given.1 _ _ _ (c.loop-slot.invariant.visiting given.0 given.1 given.2) c.loop-slot-test.true in
    (given.0, given.1, next.0, next.1)

pub overflow_sub-left : goal.overflow_sub-left
overflow_sub-left c =
    let given = c.requires.visit in
    visit_left _ _ given.0 given.1 _ _ _ (c.loop-slot.invariant.visiting given.0 given.1 given.2) c.loop-slot-test.true

pub loop-slot-preserved : goal.loop-slot-preserved
loop-slot-preserved c = record {
  store = c.visit_slot-slot.ensures.store ∙ c.loop-slot.invariant.store;
  heads = c.visit_slot-slot.ensures.heads ∙ c.loop-slot.invariant.heads;
  visiting = λ ms m t. visit_more _ _ _ ms m _ _ _ _ (c.loop-slot.invariant.visiting ms m t) c.loop-slot-test.true (c.visit_slot-slot.ensures.visited ms m);
}

pub returns-clause-visited : goal.returns-clause-visited
returns-clause-visited c = λ ms m t. visit_done _ _ ms m _ _ _ (c.loop-slot.invariant.visiting ms m t) c.loop-slot-test.false

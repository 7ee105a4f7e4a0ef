use Rattle.std.proofs.Common.{◌≡◌, ◌+◌, ◌<◌, ◌≤◌, true, false, refl, ap, ◌∙◌, arith}
use Rattle.ut_logic.specs.Clauses.{literal, negated}
use Rattle.std.proofs.lemmas.List.{take_more_set}
use Rattle.sat_log.specs.declared.marks.Mark.{Mark}
use Rattle.sat_log.specs.Codes.{literal_of}
use Rattle.sat_log.specs.TrailInside.{set_marks}
use Rattle.sat_log.proofs.DecidedTrail.{decides_now, decide_go, back_one}
use Rattle.sat_log.proofs.Numbering.{literal_of-code_of}
use Rattle.sat_log.proofs.Places.{place_of_unset}
use Rattle.sat_log.proofs.TrailLaws.{few_vars, code_in_heads, visit_ready, stepped}
use Rattle.sat_log.proofs.trail.Trail.decide.Goals as goal

pub first_unset-place-requires-clause-below : goal.first_unset-place-requires-clause-below
first_unset-place-requires-clause-below c = rw c.as_slice.ensures.value c.self.invariant.trail.below

pub first_unset-place-requires-clause-some : goal.first_unset-place-requires-clause-some
first_unset-place-requires-clause-some c =
    let some = rw (← c.self.view_is) at c.requires.some in
    rw c.as_slice.ensures.value (place_of_unset _ _ _ some.0 c.self.invariant.trail.told some.1 some.2 some.3)

pub put-requires-clause-room : goal.put-requires-clause-room
put-requires-clause-room c =
    let quiet = rw (← c.self.view_is) at c.requires.quiet in
    let found = rw c.as_slice.ensures.value at c.first_unset-place.ensures in
    let s = c.self.inside in
    let go = decide_go s c.self.invariant _ quiet found.within found.unset found.first in
    omega (arith, s.marks.ok.0, c.self.invariant.trail.room, go.room)

pub put-requires-clause-reasons : goal.put-requires-clause-reasons
put-requires-clause-reasons c =
    let s = c.self.inside in
    omega (arith, s.marks.ok.0, s.reasons.ok.0, c.self.invariant.trail.room, c.self.invariant.trail.reason_room)

pub put-requires-clause-var : goal.put-requires-clause-var
put-requires-clause-var c =
    let found = rw c.as_slice.ensures.value at c.first_unset-place.ensures.within in
    (omega arith, omega (arith, c.self.inside.values.ok.0, found))

pub stand-requires-clause-at : goal.stand-requires-clause-at
stand-requires-clause-at c =
    let found = rw c.as_slice.ensures.value at c.first_unset-place.ensures.within in
    let s = c.self.inside in
    omega (arith, s.at.ok.0, c.self.invariant.placed.at_room, c.self.invariant.trail.told.0, found)

pub stand-requires-clause-latest : goal.stand-requires-clause-latest
stand-requires-clause-latest c =
    let quiet = rw (← c.self.view_is) at c.requires.quiet in
    let found = rw c.as_slice.ensures.value at c.first_unset-place.ensures in
    let s = c.self.inside in
    let go = decide_go s c.self.invariant _ quiet found.within found.unset found.first in
    omega (arith, s.latest.ok.0, c.self.invariant.placed.latest_room, go.room)

pub stand-requires-clause-few : goal.stand-requires-clause-few
stand-requires-clause-few c =
    let s = c.self.inside in
    omega (arith, c.self.invariant.trail.count, few_vars s c.self.invariant)

pub code_of-requires : goal.code_of-requires
code_of-requires c =
    let found = rw c.as_slice.ensures.value at c.first_unset-place.ensures.within in
    rw c.opposite.ensures (omega (arith, found, c.self.invariant.trail.told.0, few_vars c.self.inside c.self.invariant))

pub visit-requires-clause-code : goal.visit-requires-clause-code
visit-requires-clause-code c =
    let found = rw c.as_slice.ensures.value at c.first_unset-place.ensures.within in
    let e = rw c.opposite.ensures at c.code_of.ensures in
    code_in_heads c.self.inside c.self.invariant (negated (literal (c.first_unset-place.result + 1) false)) _ (omega (arith, found, c.self.invariant.trail.told.0)) e

pub visit-requires-clause-visit : goal.visit-requires-clause-visit
visit-requires-clause-visit c =
    let quiet = rw (← c.self.view_is) at c.requires.quiet in
    let found = rw c.as_slice.ensures.value at c.first_unset-place.ensures in
    let s = c.self.inside in
    let go = decide_go s c.self.invariant _ quiet found.within found.unset found.first in
    let e = rw c.opposite.ensures at c.code_of.ensures in
    (set_marks s, record { lit = literal (c.first_unset-place.result + 1) false; decided = true }, rw (c.as_slice-2.ensures.value, c.put.ensures.values) (visit_ready s c.self.invariant _ _ _ _ go _ (ap literal_of e ∙ literal_of-code_of _)))

pub invariant_of-self : goal.invariant_of-self
invariant_of-self c =
    let quiet = rw (← c.self.view_is) at c.requires.quiet in
    let found = rw c.as_slice.ensures.value at c.first_unset-place.ensures in
    let s = c.self.inside in
    let go = decide_go s c.self.invariant _ quiet found.within found.unset found.first in
    let e = rw c.opposite.ensures at c.code_of.ensures in
    let walk = rw c.as_slice-2.ensures.value at c.visit.ensures.visited in
    stepped s c.self.invariant _ _ _ _ go _ c.first_unset-place.result _ refl refl c.visit.ensures.store refl c.put.ensures.marks c.put.ensures.reasons c.stand.ensures.latest refl refl c.put.ensures.values c.stand.ensures.at refl (back_one c.first_unset-place.result) (ap literal_of e ∙ literal_of-code_of _) walk

pub returns-clause-clauses : goal.returns-clause-clauses
returns-clause-clauses c = rw (← c.self.view_is, c.visit.ensures.store) refl

pub returns-clause-state : goal.returns-clause-state
returns-clause-state c =
    let quiet = rw (← c.self.view_is) at c.requires.quiet in
    let found = rw c.as_slice.ensures.value at c.first_unset-place.ensures in
    let s = c.self.inside in
    let go = decide_go s c.self.invariant _ quiet found.within found.unset found.first in
    let d = decides_now s c.self.invariant _ quiet found.within found.unset found.first in
    let m : Mark = record { lit = literal (c.first_unset-place.result + 1) false; decided = true } in
    rw (← c.self.view_is, c.put.ensures.marks) (rw (take_more_set s.marks.items s.set m (omega (arith, c.self.invariant.trail.room, go.room))) d)

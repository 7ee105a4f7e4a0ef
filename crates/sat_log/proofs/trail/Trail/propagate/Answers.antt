use Rattle.std.proofs.Common.{◌≡◌, ◌-◌, ◌<◌, ◌≤◌, false, length, map, refl, sym, ap, ◌∙◌, arith}
use Rattle.std.proofs.lemmas.List.{take_more_set}
use Rattle.ut_logic.specs.Clauses.{negated}
use Rattle.sat_log.specs.declared.marks.Mark.{Mark}
use Rattle.sat_log.specs.Codes.{literal_of}
use Rattle.sat_log.specs.TrailInside.{set_marks}
use Rattle.sat_log.proofs.DecidedTrail.{force_go, clause_place, some_unset_code, forced_code}
use Rattle.sat_log.proofs.Numbering.{literal_of-code_of}
use Rattle.sat_log.proofs.Propagating.{lits_within, sets}
use Rattle.sat_log.proofs.TrailLaws.{few_vars, code_in_heads, code_ranges, visit_ready, stepped}
use Rattle.sat_log.proofs.trail.Trail.propagate.Goals as goal

pub codes-requires : goal.codes-requires
codes-requires c =
    let f = rw (← c.self.view_is) at c.requires.forces in
    (clause_place c.self.inside c.self.invariant _ _ f.1 f.2.0 f.2.1).0

pub unset_code-code-requires-clause-within : goal.unset_code-code-requires-clause-within
unset_code-code-requires-clause-within c =
    let f = rw (← c.self.view_is) at c.requires.forces in
    let place = clause_place c.self.inside c.self.invariant _ _ f.1 f.2.0 f.2.1 in
    rw c.as_slice.ensures.value (code_ranges c.self.inside c.self.invariant _ _ f.1 _ (c.codes.ensures.lits ∙ place.1))

pub unset_code-code-requires-clause-some : goal.unset_code-code-requires-clause-some
unset_code-code-requires-clause-some c =
    let f = rw (← c.self.view_is) at c.requires.forces in
    let place = clause_place c.self.inside c.self.invariant _ _ f.1 f.2.0 f.2.1 in
    rw c.as_slice.ensures.value (some_unset_code c.self.inside c.self.invariant _ _ f.1 f.2.0 f.2.1 _ (c.codes.ensures.lits ∙ place.1))

pub put-requires-clause-room : goal.put-requires-clause-room
put-requires-clause-room c =
    let f = rw (← c.self.view_is) at c.requires.forces in
    let s = c.self.inside in
    let go = force_go s c.self.invariant _ _ f.1 f.2.0 f.2.1 in
    omega (arith, s.marks.ok.0, c.self.invariant.trail.room, go.room)

pub put-requires-clause-reasons : goal.put-requires-clause-reasons
put-requires-clause-reasons c =
    let s = c.self.inside in
    omega (arith, s.marks.ok.0, s.reasons.ok.0, c.self.invariant.trail.room, c.self.invariant.trail.reason_room)

pub overflow_sub-lit : goal.overflow_sub-lit
overflow_sub-lit c =
    let f = rw (← c.self.view_is) at c.requires.forces in
    let s = c.self.inside in
    let place = clause_place s c.self.invariant _ _ f.1 f.2.0 f.2.1 in
    let unset = rw c.as_slice.ensures.value at c.unset_code-code.ensures.unset in
    let e = forced_code s c.self.invariant _ _ f.1 f.2.0 f.2.1 _ (c.codes.ensures.lits ∙ place.1) _ c.unset_code-code.ensures.inside unset in
    let lit_is = c.literal_of-lit.ensures ∙ sym e in
    let go = force_go s c.self.invariant _ _ f.1 f.2.0 f.2.1 in
    rw lit_is go.range.0

pub put-requires-clause-var : goal.put-requires-clause-var
put-requires-clause-var c =
    let f = rw (← c.self.view_is) at c.requires.forces in
    let s = c.self.inside in
    let place = clause_place s c.self.invariant _ _ f.1 f.2.0 f.2.1 in
    let unset = rw c.as_slice.ensures.value at c.unset_code-code.ensures.unset in
    let e = forced_code s c.self.invariant _ _ f.1 f.2.0 f.2.1 _ (c.codes.ensures.lits ∙ place.1) _ c.unset_code-code.ensures.inside unset in
    let lit_is = c.literal_of-lit.ensures ∙ sym e in
    let go = force_go s c.self.invariant _ _ f.1 f.2.0 f.2.1 in
    rw lit_is (go.range.0, omega (arith, go.range.1, s.values.ok.0, c.self.invariant.trail.told.0))

pub stand-requires-clause-at : goal.stand-requires-clause-at
stand-requires-clause-at c =
    let f = rw (← c.self.view_is) at c.requires.forces in
    let s = c.self.inside in
    let place = clause_place s c.self.invariant _ _ f.1 f.2.0 f.2.1 in
    let unset = rw c.as_slice.ensures.value at c.unset_code-code.ensures.unset in
    let e = forced_code s c.self.invariant _ _ f.1 f.2.0 f.2.1 _ (c.codes.ensures.lits ∙ place.1) _ c.unset_code-code.ensures.inside unset in
    let lit_is = c.literal_of-lit.ensures ∙ sym e in
    let go = force_go s c.self.invariant _ _ f.1 f.2.0 f.2.1 in
    rw lit_is (omega (arith, go.range.0, go.range.1, s.at.ok.0, c.self.invariant.placed.at_room))

pub stand-requires-clause-latest : goal.stand-requires-clause-latest
stand-requires-clause-latest c =
    let f = rw (← c.self.view_is) at c.requires.forces in
    let s = c.self.inside in
    let go = force_go s c.self.invariant _ _ f.1 f.2.0 f.2.1 in
    omega (arith, s.latest.ok.0, c.self.invariant.placed.latest_room, go.room)

pub stand-requires-clause-few : goal.stand-requires-clause-few
stand-requires-clause-few c = omega (arith, c.self.invariant.trail.count, few_vars c.self.inside c.self.invariant)

pub code_of-requires : goal.code_of-requires
code_of-requires c =
    let f = rw (← c.self.view_is) at c.requires.forces in
    let s = c.self.inside in
    let place = clause_place s c.self.invariant _ _ f.1 f.2.0 f.2.1 in
    let unset = rw c.as_slice.ensures.value at c.unset_code-code.ensures.unset in
    let e = forced_code s c.self.invariant _ _ f.1 f.2.0 f.2.1 _ (c.codes.ensures.lits ∙ place.1) _ c.unset_code-code.ensures.inside unset in
    let lit_is = c.literal_of-lit.ensures ∙ sym e in
    let go = force_go s c.self.invariant _ _ f.1 f.2.0 f.2.1 in
    rw (c.opposite.ensures, lit_is) (omega (arith, go.range.1, few_vars s c.self.invariant))

pub visit-requires-clause-code : goal.visit-requires-clause-code
visit-requires-clause-code c =
    let f = rw (← c.self.view_is) at c.requires.forces in
    let s = c.self.inside in
    let place = clause_place s c.self.invariant _ _ f.1 f.2.0 f.2.1 in
    let unset = rw c.as_slice.ensures.value at c.unset_code-code.ensures.unset in
    let e = forced_code s c.self.invariant _ _ f.1 f.2.0 f.2.1 _ (c.codes.ensures.lits ∙ place.1) _ c.unset_code-code.ensures.inside unset in
    let lit_is = c.literal_of-lit.ensures ∙ sym e in
    let go = force_go s c.self.invariant _ _ f.1 f.2.0 f.2.1 in
    let code = rw (c.opposite.ensures, lit_is) at c.code_of.ensures in
    code_in_heads s c.self.invariant (negated f.2.0) _ go.range.1 code

pub visit-requires-clause-visit : goal.visit-requires-clause-visit
visit-requires-clause-visit c =
    let f = rw (← c.self.view_is) at c.requires.forces in
    let s = c.self.inside in
    let place = clause_place s c.self.invariant _ _ f.1 f.2.0 f.2.1 in
    let unset = rw c.as_slice.ensures.value at c.unset_code-code.ensures.unset in
    let e = forced_code s c.self.invariant _ _ f.1 f.2.0 f.2.1 _ (c.codes.ensures.lits ∙ place.1) _ c.unset_code-code.ensures.inside unset in
    let lit_is = c.literal_of-lit.ensures ∙ sym e in
    let go = force_go s c.self.invariant _ _ f.1 f.2.0 f.2.1 in
    let code = rw (c.opposite.ensures, lit_is) at c.code_of.ensures in
    let values = rw lit_is at c.put.ensures.values in
    (set_marks s, record { lit = f.2.0; decided = false }, rw (c.as_slice-2.ensures.value, values) (visit_ready s c.self.invariant _ _ _ _ go _ (ap literal_of code ∙ literal_of-code_of _)))

pub invariant_of-self : goal.invariant_of-self
invariant_of-self c =
    let f = rw (← c.self.view_is) at c.requires.forces in
    let s = c.self.inside in
    let place = clause_place s c.self.invariant _ _ f.1 f.2.0 f.2.1 in
    let unset = rw c.as_slice.ensures.value at c.unset_code-code.ensures.unset in
    let e = forced_code s c.self.invariant _ _ f.1 f.2.0 f.2.1 _ (c.codes.ensures.lits ∙ place.1) _ c.unset_code-code.ensures.inside unset in
    let lit_is = c.literal_of-lit.ensures ∙ sym e in
    let go = force_go s c.self.invariant _ _ f.1 f.2.0 f.2.1 in
    let code = rw (c.opposite.ensures, lit_is) at c.code_of.ensures in
    let put = rw lit_is at c.put.ensures in
    let at = rw lit_is at c.stand.ensures.at in
    let walk = rw c.as_slice-2.ensures.value at c.visit.ensures.visited in
    stepped s c.self.invariant _ _ _ _ go _ _ _ refl refl c.visit.ensures.store refl put.marks put.reasons c.stand.ensures.latest refl refl put.values at refl refl (ap literal_of code ∙ literal_of-code_of _) walk

pub returns-clause-clauses : goal.returns-clause-clauses
returns-clause-clauses c = rw (← c.self.view_is, c.visit.ensures.store) refl

pub returns-clause-sets : goal.returns-clause-sets
returns-clause-sets c =
    let f = rw (← c.self.view_is) at c.requires.forces in
    let s = c.self.inside in
    let place = clause_place s c.self.invariant _ _ f.1 f.2.0 f.2.1 in
    let unset = rw c.as_slice.ensures.value at c.unset_code-code.ensures.unset in
    let e = forced_code s c.self.invariant _ _ f.1 f.2.0 f.2.1 _ (c.codes.ensures.lits ∙ place.1) _ c.unset_code-code.ensures.inside unset in
    let lit_is = c.literal_of-lit.ensures ∙ sym e in
    let go = force_go s c.self.invariant _ _ f.1 f.2.0 f.2.1 in
    let m : Mark = record { lit = f.2.0; decided = false } in
    let marks = rw lit_is at c.put.ensures.marks in
    rw (← c.self.view_is, marks) (rw (take_more_set s.marks.items s.set m (omega (arith, go.room, c.self.invariant.trail.room))) (sets _ _ _ _ _ _ _ _ s.steps c.self.invariant.trail _ _ f.1 f.2.0 f.2.1))

use Rattle.std.proofs.Common.{◌≤◌, ◌<◌, true, take, sym, ap, ◌∙◌, subst, arith}
use Rattle.std.proofs.lemmas.List.{get_or_default}
use Rattle.ut_logic.specs.Clauses.{literal}
use Rattle.sat_log.specs.Codes.{literal_of}
use Rattle.sat_log.proofs.JumpedTrail.{line_in_places, line_in_values, line_within, some_literal, cut_exists, cut_first, coded_watches, line_fits}
use Rattle.sat_log.proofs.Numbering.{literal_of-code_of}
use Rattle.sat_log.proofs.TrailLaws.{few_vars, length_marks}
use Rattle.sat_log.proofs.trail.Trail.backjump.Goals as goal

pub latest_two-ends-requires-clause-some : goal.latest_two-ends-requires-clause-some
latest_two-ends-requires-clause-some c =
    let some = rw (← c.self.view_is) at c.requires.some in
    let right = rw (← c.self.view_is) at c.requires.right in
    rw c.lits-lits.ensures.value (some_literal c.self.inside c.self.invariant c.args.derived right some.0 some.1)

pub latest_two-ends-requires-clause-set : goal.latest_two-ends-requires-clause-set
latest_two-ends-requires-clause-set c = omega (arith, c.self.invariant.trail.count, few_vars c.self.inside c.self.invariant)

pub latest_two-ends-requires-clause-at : goal.latest_two-ends-requires-clause-at
latest_two-ends-requires-clause-at c =
    let right = rw (← c.self.view_is) at c.requires.right in
    rw (c.lits-lits.ensures.value, c.as_slice.ensures.value) (line_in_places c.self.inside c.self.invariant c.args.derived right)

pub latest_two-ends-requires-clause-values : goal.latest_two-ends-requires-clause-values
latest_two-ends-requires-clause-values c =
    let right = rw (← c.self.view_is) at c.requires.right in
    rw (c.lits-lits.ensures.value, c.as_slice-2.ensures.value) (line_in_values c.self.inside c.self.invariant c.args.derived right)

pub cut_behind-place-requires-clause-some : goal.cut_behind-place-requires-clause-some
cut_behind-place-requires-clause-some c =
    let some = rw (← c.self.view_is) at c.requires.some in
    let right = rw (← c.self.view_is) at c.requires.right in
    let two = rw (c.lits-lits.ensures.value, c.as_slice.ensures.value, c.as_slice-2.ensures.value) at c.latest_two-ends.ensures in
    rw c.as_slice-3.ensures.value (cut_exists c.self.inside c.self.invariant c.args.derived right some.0 some.1 c.lits-lits.ensures.ordered _ _ _ two)

pub cut_behind-place-requires-clause-latest : goal.cut_behind-place-requires-clause-latest
cut_behind-place-requires-clause-latest c = rw (c.as_slice-3.ensures.value, c.as_slice-4.ensures.value) c.self.invariant.placed.latest_place

pub cut_behind-place-requires-clause-room : goal.cut_behind-place-requires-clause-room
cut_behind-place-requires-clause-room c =
    rw (c.as_slice-3.ensures.value, c.as_slice-4.ensures.value) (omega (arith, c.self.invariant.placed.latest_room, c.self.invariant.trail.count, length_marks c.self.inside c.self.invariant))

pub cut_at-requires-clause-place : goal.cut_at-requires-clause-place
cut_at-requires-clause-place c =
    let some = rw (← c.self.view_is) at c.requires.some in
    let right = rw (← c.self.view_is) at c.requires.right in
    let two = rw (c.lits-lits.ensures.value, c.as_slice.ensures.value, c.as_slice-2.ensures.value) at c.latest_two-ends.ensures in
    let first = rw c.as_slice-3.ensures.value at c.cut_behind-place.ensures in
    rw (← c.self.view_is) (cut_first c.self.inside c.self.invariant c.args.derived right some.0 some.1 c.lits-lits.ensures.ordered _ _ _ two _ first)

pub code_of-requires : goal.code_of-requires
code_of-requires c =
    let right = rw (← c.self.view_is) at c.requires.right in
    let two = rw (c.lits-lits.ensures.value, c.as_slice.ensures.value, c.as_slice-2.ensures.value) at c.latest_two-ends.ensures in
    rw c.lits-lits.ensures.value (line_fits c.self.inside c.self.invariant c.args.derived right _ _ two.first_in)

pub code_of-requires-2 : goal.code_of-requires-2
code_of-requires-2 c =
    let right = rw (← c.self.view_is) at c.requires.right in
    let two = rw (c.lits-lits.ensures.value, c.as_slice.ensures.value, c.as_slice-2.ensures.value) at c.latest_two-ends.ensures in
    rw c.lits-lits.ensures.value (line_fits c.self.inside c.self.invariant c.args.derived right _ _ two.second_in)

pub cut_at-requires-clause-watches : goal.cut_at-requires-clause-watches
cut_at-requires-clause-watches c =
    let some = rw (← c.self.view_is) at c.requires.some in
    let right = rw (← c.self.view_is) at c.requires.right in
    let two = rw (c.lits-lits.ensures.value, c.as_slice.ensures.value, c.as_slice-2.ensures.value) at c.latest_two-ends.ensures in
    let first = rw c.as_slice-3.ensures.value at c.cut_behind-place.ensures in
    let a = rw c.lits-lits.ensures.value at (ap literal_of c.code_of.ensures ∙ literal_of-code_of _) in
    let b = rw c.lits-lits.ensures.value at (ap literal_of c.code_of-2.ensures ∙ literal_of-code_of _) in
    rw (← c.self.view_is) (coded_watches c.self.inside c.self.invariant c.args.derived right some.0 some.1 c.lits-lits.ensures.ordered _ _ _ two _ first _ _ (a ∙ get_or_default _ _ _ (literal 0 true) two.first_in) (b ∙ get_or_default _ _ _ (literal 0 true) two.second_in))

pub returns-clause-first : goal.returns-clause-first
returns-clause-first c =
    let some = rw (← c.self.view_is) at c.requires.some in
    let right = rw (← c.self.view_is) at c.requires.right in
    let two = rw (c.lits-lits.ensures.value, c.as_slice.ensures.value, c.as_slice-2.ensures.value) at c.latest_two-ends.ensures in
    let first = rw c.as_slice-3.ensures.value at c.cut_behind-place.ensures in
    rw c.in_ok-cut_at.ensures.place (rw (← c.self.view_is) (cut_first c.self.inside c.self.invariant c.args.derived right some.0 some.1 c.lits-lits.ensures.ordered _ _ _ two _ first))

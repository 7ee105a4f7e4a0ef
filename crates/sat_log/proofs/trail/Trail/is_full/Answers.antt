use Rattle.std.proofs.Common.{◌<◌, ◌≤◌, length, refl, arith}
use Rattle.std.proofs.lemmas.Bool.{eqb-true, eqb-false, OnTrue_from, OnFalse_from}
use Rattle.sat_log.specs.TrailInside.{set_marks}
use Rattle.sat_log.proofs.Reading.{full_values, unset_place}
use Rattle.sat_log.proofs.TrailLaws.{low_within, lowered}
use Rattle.sat_log.proofs.trail.Trail.is_full.Goals as goal

pub first_unset_or_end-place-requires-clause-low : goal.first_unset_or_end-place-requires-clause-low
first_unset_or_end-place-requires-clause-low c = rw c.as_slice.ensures.value (low_within c.self.inside c.self.invariant)

pub first_unset_or_end-place-requires-clause-below : goal.first_unset_or_end-place-requires-clause-below
first_unset_or_end-place-requires-clause-below c = rw c.as_slice.ensures.value c.self.invariant.trail.below

pub invariant_of-self : goal.invariant_of-self
invariant_of-self c = lowered c.self.inside c.self.invariant _ refl refl refl refl refl refl refl refl refl refl refl (rw c.as_slice.ensures.value at c.first_unset_or_end-place.ensures.first)

pub returns-clause-full : goal.returns-clause-full
returns-clause-full c =
    let s = c.self.inside in
    let first = rw c.as_slice.ensures.value at c.first_unset_or_end-place.ensures.first in
    rw (← c.self.view_is) (OnTrue_from _ _ (λ e. full_values s.vars (set_marks s) s.values.items c.first_unset_or_end-place.result c.self.invariant.trail.told (omega (arith, eqb-true _ _ e, c.len.ensures, s.values.ok.0)) first))

pub returns-clause-some : goal.returns-clause-some
returns-clause-some c =
    let s = c.self.inside in
    let found = rw c.as_slice.ensures.value at c.first_unset_or_end-place.ensures in
    rw (← c.self.view_is) (OnFalse_from _ _ (λ e. let low : c.first_unset_or_end-place.result < length s.values.items = omega (arith, found.within, eqb-false _ _ e, c.len.ensures, s.values.ok.0) in unset_place s.vars (set_marks s) s.values.items c.first_unset_or_end-place.result _ c.self.invariant.trail.told low (found.unset low)))

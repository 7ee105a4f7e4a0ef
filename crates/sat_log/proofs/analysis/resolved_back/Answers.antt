use Rattle.std.proofs.Common.{◌≡◌, ◌-◌, ◌<◌, ◌≤◌, inl, inr, length, take, refl, sym, subst, arith}
use Rattle.std.proofs.lemmas.List.{take_all}
use Rattle.sat_log.specs.Moves.{IsFalseClause}
use Rattle.sat_log.proofs.Back.{back_start}
use Rattle.sat_log.proofs.Jumping.{no_mark}
use Rattle.sat_log.proofs.Searching.{none_at}
use Rattle.sat_log.proofs.PlaceLaws.{at_cut}
use Rattle.sat_log.proofs.Pivoting.{explained_end, place_end, pivot_resolves, pivot_gone, numbered_clause, apart_cut, cut_longer, decided_cut, false_ranges, vars_cut}
use Rattle.sat_log.proofs.analysis.resolved_back.Goals as goal

pub loop-place-init : goal.loop-place-init
loop-place-init c =
    let num = numbered_clause _ _ _ c.requires.number.0 c.requires.number.1 c.in_ok-acc.ensures in
    let f = c.requires.conflict _ num in
    let whole = take_all (length c.args.marks.now) c.args.marks.now (omega arith) in
    record {
      in_range = omega arith;
      is_false = subst (λ t. IsFalseClause t c.in_ok-acc.acc) (sym whole) f;
      back = (_, num, rw c.new-pairs.ensures.items (back_start _ _ _ c.requires.apart (c.args.conflict - 1, omega (arith, num.0, num.1), num.2) f));
    }

pub next_pivot-requires-clause-apart : goal.next_pivot-requires-clause-apart
next_pivot-requires-clause-apart c = apart_cut c.args.marks.now c.loop-place.end c.loop-place.invariant.in_range c.requires.apart

pub next_pivot-requires-clause-placed : goal.next_pivot-requires-clause-placed
next_pivot-requires-clause-placed c = at_cut c.args.marks.now c.args.at.now c.loop-place.end c.loop-place.invariant.in_range c.requires.placed

pub next_pivot-requires-clause-within : goal.next_pivot-requires-clause-within
next_pivot-requires-clause-within c =
    rw c.lits.ensures.value (false_ranges (length c.args.at.now) (take c.loop-place.end c.args.marks.now) _ (vars_cut (length c.args.at.now) c.args.marks.now c.loop-place.end c.requires.vars) c.loop-place.invariant.is_false)

pub next_pivot-requires-clause-is_false : goal.next_pivot-requires-clause-is_false
next_pivot-requires-clause-is_false c = rw c.lits.ensures.value c.loop-place.invariant.is_false

pub next_pivot-requires-clause-decided : goal.next_pivot-requires-clause-decided
next_pivot-requires-clause-decided c =
    decided_cut c.args.marks.now c.loop-place.end c.loop-place.invariant.in_range c.args.decided c.place_before-from.result c.place_before-from.ensures.some c.place_before-from.ensures.none c.requires.decided

pub step_back-requires : goal.step_back-requires
step_back-requires c =
    let inv = c.loop-place.invariant in
    let p = rw c.lits.ensures.value at (rw c.in-Some.is at c.next_pivot.ensures.pivot) in
    pivot_resolves c.args.store.now c.args.marks.now c.args.reasons.now inv.back.0 c.loop-place.end c.loop-place.acc c.loop-place.pairs.items c.in-Some.place _ c.requires.apart c.requires.reasons inv.in_range inv.back.2 p

pub loop-place-smaller : goal.loop-place-smaller
loop-place-smaller c =
    let inv = c.loop-place.invariant in
    let p = rw c.lits.ensures.value at (rw c.in-Some.is at c.next_pivot.ensures.pivot) in
    place_end c.args.store.now c.args.marks.now c.args.reasons.now inv.back.0 c.loop-place.end c.loop-place.acc c.loop-place.pairs.items c.in-Some.place no_mark c.requires.apart c.requires.reasons inv.in_range inv.back.2 p

pub loop-place-preserved : goal.loop-place-preserved
loop-place-preserved c =
    let inv = c.loop-place.invariant in
    let p = rw c.lits.ensures.value at (rw c.in-Some.is at c.next_pivot.ensures.pivot) in
    let low = place_end c.args.store.now c.args.marks.now c.args.reasons.now inv.back.0 c.loop-place.end c.loop-place.acc c.loop-place.pairs.items c.in-Some.place no_mark c.requires.apart c.requires.reasons inv.in_range inv.back.2 p in
    let step = c.in_ok-step_back.ensures in
    let gone = pivot_gone c.args.store.now c.args.marks.now c.args.reasons.now inv.back.0 c.loop-place.end c.loop-place.acc c.loop-place.pairs.items c.in-Some.place _ c.requires.apart c.requires.reasons inv.in_range inv.back.2 p _ step.0 _ _ refl step.1 step.2 step.3 in
    record {
      in_range = omega (arith, low, inv.in_range);
      is_false = gone.1;
      back = (inv.back.0, inv.back.1, gone.0);
    }

pub returns-clause-derived : goal.returns-clause-derived
returns-clause-derived c =
    let back = c.loop-place.invariant.back in
    (back.0, back.1, rw c.from_vec.ensures back.2.derived)

pub returns-clause-ends : goal.returns-clause-ends
returns-clause-ends c = λ settled.
    let inv = c.loop-place.invariant in
    let ends = rw c.lits.ensures.value at (none_at _ _ c.in_default.not-Some c.next_pivot.ensures.none) in
    explained_end c.args.store.now c.args.marks.now inv.back.0 _ c.loop-place.end c.loop-place.pairs.items settled inv.back.2 (elim ends [
      | inl e ↦ inl e
      | inr cut ↦ inr (cut.0, cut_longer c.args.marks.now c.loop-place.end inv.in_range _ cut.0 cut.1)
    ])

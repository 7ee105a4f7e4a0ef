use Rattle.std.proofs.Common.{◌≡◌, ◌≢◌, [], length, inr, ap, ◌∙◌}
use Rattle.std.proofs.lemmas.Bool.{OnTrue_at}
use Rattle.std.proofs.lemmas.List.{get_or_default}
use Rattle.sat_log.specs.declared.marks.Mark.{Mark}
use Rattle.sat_log.proofs.Pivoting.{cut_alone, place_low, cut_decided, pivot_made}
use Rattle.sat_log.proofs.analysis.next_pivot.Goals as goal

pub returns-then-is_alone-clause-none : goal.returns-then-is_alone-clause-none
returns-then-is_alone-clause-none c =
    inr (cut_alone c.args.marks.now c.args.at.now c.args.lits.now c.requires.apart c.requires.placed c.requires.is_false c.args.from c.requires.decided (OnTrue_at c.if-is_alone.true c.is_alone.ensures))

pub returns-then-marks-place-clause-none : goal.returns-then-marks-place-clause-none
returns-then-marks-place-clause-none c =
    let some : c.args.lits.now ≢ [] = λ e. c.if-lits-eq0.false (ap length e) in
    let low = place_low c.args.marks.now c.args.at.now c.args.lits.now c.requires.apart c.requires.placed c.requires.is_false c.latest_place-place.result c.latest_place-place.ensures some in
    inr (cut_decided c.args.marks.now c.args.at.now c.args.lits.now c.requires.apart c.requires.placed c.requires.is_false c.latest_place-place.result c.latest_place-place.ensures some (λ d. ap (λ (m : Mark). m.decided) (get_or_default c.args.marks.now c.latest_place-place.result d _ low) ∙ c.if-marks-place.true))

pub bounds-marks-place : goal.bounds-marks-place
bounds-marks-place c =
    place_low c.args.marks.now c.args.at.now c.args.lits.now c.requires.apart c.requires.placed c.requires.is_false c.latest_place-place.result c.latest_place-place.ensures (λ e. c.if-lits-eq0.false (ap length e))

pub returns-clause-pivot : goal.returns-clause-pivot
returns-clause-pivot c =
    let some : c.args.lits.now ≢ [] = λ e. c.if-lits-eq0.false (ap length e) in
    let low = place_low c.args.marks.now c.args.at.now c.args.lits.now c.requires.apart c.requires.placed c.requires.is_false c.latest_place-place.result c.latest_place-place.ensures some in
    pivot_made c.args.marks.now c.args.at.now c.args.lits.now c.requires.apart c.requires.placed c.requires.is_false c.latest_place-place.result c.latest_place-place.ensures some (λ d. ap (λ (m : Mark). m.decided) (get_or_default c.args.marks.now c.latest_place-place.result d _ low) ∙ c.if-marks-place.false)

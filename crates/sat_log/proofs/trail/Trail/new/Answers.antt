use Rattle.std.proofs.Common.{◌≡◌, ◌<◌, length, refl, ◌∙◌, arith}
use Rattle.sat_log.proofs.TrailLaws.{started}
use Rattle.sat_log.proofs.trail.Trail.new.Goals as goal

pub watched_clauses-requires-clause-within : goal.watched_clauses-requires-clause-within
watched_clauses-requires-clause-within c = rw c.as_slice.ensures c.args.cnf.now.in_range

pub invariant_of-result : goal.invariant_of-result
invariant_of-result c =
    let values = c.in_ok-values.ensures in
    started _ c.args.cnf.now.clauses (c.in_ok-watched.ensures.store ∙ c.as_slice.ensures) c.len.ensures c.args.cnf.now.in_range c.new.ensures.items (omega (arith, c.in_ok-marks.ensures.len, c.in_ok-marks.marks.ok.0)) (omega (arith, c.in_ok-reasons.ensures.len, c.in_ok-reasons.reasons.ok.0)) (omega (arith, values.0, c.in_ok-values.values.ok.0)) values.1 (omega (arith, c.in_ok-at.ensures.len, c.in_ok-at.at.ok.0)) (omega (arith, c.in_ok-latest.ensures.len, c.in_ok-latest.latest.ok.0)) refl refl refl c.in_ok-watched.ensures.watched

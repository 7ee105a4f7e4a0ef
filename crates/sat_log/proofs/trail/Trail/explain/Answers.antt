use Rattle.std.proofs.Common.{◌≡◌, ◌<◌, ◌≤◌, take, length, sym, subst, arith}
use Rattle.std.specs.Prelude.{All}
use Rattle.ut_logic.specs.Clauses.{AreWithin}
use Rattle.log_check.specs.Derivations.{ChainGives, IsNumbered}
use Rattle.log_check.proofs.Deriving.{numbered_once}
use Rattle.sat_log.specs.declared.marks.Mark.{Mark}
use Rattle.sat_log.specs.Inner.{AreReasons, IsSettled}
use Rattle.sat_log.specs.Moves.{IsFalseClause}
use Rattle.sat_log.specs.TrailInside.{set_marks}
use Rattle.sat_log.proofs.TrailLaws.{apart_now, vars_now, watched_known, known_watched, latest_now}
use Rattle.sat_log.proofs.trail.Trail.explain.Goals as goal

pub resolved_back-requires-clause-apart : goal.resolved_back-requires-clause-apart
resolved_back-requires-clause-apart c = rw c.as_slice-2.ensures.value (apart_now c.self.inside c.self.invariant)

pub resolved_back-requires-clause-reasons : goal.resolved_back-requires-clause-reasons
resolved_back-requires-clause-reasons c =
    let s = c.self.inside in
    rw (c.as_slice-2.ensures.value, c.as_slice-3.ensures.value) (watched_known s c.self.invariant (λ k. AreReasons k (take s.set s.marks.items) (take s.set s.reasons.items)) c.self.invariant.trail.because)

pub resolved_back-requires-clause-placed : goal.resolved_back-requires-clause-placed
resolved_back-requires-clause-placed c = rw (c.as_slice-2.ensures.value, c.as_slice-4.ensures.value) c.self.invariant.placed.at_place

pub resolved_back-requires-clause-within : goal.resolved_back-requires-clause-within
resolved_back-requires-clause-within c =
    let s = c.self.inside in
    rw c.as_slice-4.ensures.value (subst (λ n. AreWithin n s.watched.store) (sym c.self.invariant.placed.at_room) c.self.invariant.watched.sized.within)

pub resolved_back-requires-clause-vars : goal.resolved_back-requires-clause-vars
resolved_back-requires-clause-vars c =
    let s = c.self.inside in
    rw (c.as_slice-2.ensures.value, c.as_slice-4.ensures.value) (subst (λ n. All (λ (m : Mark). (0 < m.lit.var) × (m.lit.var ≤ n)) (set_marks s)) (sym c.self.invariant.placed.at_room) (vars_now s c.self.invariant))

pub resolved_back-requires-clause-decided : goal.resolved_back-requires-clause-decided
resolved_back-requires-clause-decided c =
    let last = rw c.as_slice.ensures.value at c.last_decided-decided.ensures in
    rw c.as_slice-2.ensures.value (latest_now c.self.inside c.self.invariant c.last_decided-decided.result last.some last.none)

pub resolved_back-requires-clause-number : goal.resolved_back-requires-clause-number
resolved_back-requires-clause-number c =
    let given = rw (← c.self.view_is) at c.requires in
    let num = watched_known c.self.inside c.self.invariant (λ k. IsNumbered k c.args.conflict given.0) given.1 in
    (num.0, num.1)

pub resolved_back-requires-clause-conflict : goal.resolved_back-requires-clause-conflict
resolved_back-requires-clause-conflict c = λ e num.
    let s = c.self.inside in
    let given = rw (← c.self.view_is) at c.requires in
    let same = numbered_once _ _ given.0 e given.1 (known_watched s c.self.invariant (λ k. IsNumbered k c.args.conflict e) num) in
    rw c.as_slice-2.ensures.value (subst (IsFalseClause (take s.set s.marks.items)) same given.2)

pub returns-clause-right : goal.returns-clause-right
returns-clause-right c =
    rw (← c.self.view_is) (known_watched c.self.inside c.self.invariant (λ k. ChainGives k c.in_ok-line.line.chain c.in_ok-line.line.result) c.in_ok-line.ensures.derived)

pub returns-clause-ends : goal.returns-clause-ends
returns-clause-ends c =
    let s = c.self.inside in
    let ends = rw c.as_slice-2.ensures.value at c.in_ok-line.ensures.ends in
    rw (← c.self.view_is) (ends (watched_known s c.self.invariant (λ k. IsSettled k (set_marks s)) c.self.invariant.trail.settled))

use Rattle.ut_logic.specs.declared.literals.Lit.{Lit}
use Rattle.std.proofs.Common.{List}
use Rattle.std.specs.Prelude.{Contains}
use Rattle.log_check.specs.Derivations.{IsNumbered}
use Rattle.sat_log.specs.Moves.{IsFalseClause}
use Rattle.sat_log.specs.TrailInside.{set_marks}
use Rattle.sat_log.proofs.Keeping.{none_false, found_false}
use Rattle.sat_log.proofs.TrailLaws.{apart_now, known_watched}
use Rattle.sat_log.proofs.trail.Trail.first_false.Goals as goal

pub returns-then-self-eq0-clause-none : goal.returns-then-self-eq0-clause-none
returns-then-self-eq0-clause-none c =
    let s = c.self.inside in
    rw (← c.self.view_is) (known_watched s c.self.invariant (λ k. (e : List Lit) → Contains k e → ¬ IsFalseClause (set_marks s) e) (none_false s.vars s.watched (set_marks s) c.self.invariant.watched (apart_now s c.self.invariant) c.if-self-eq0.true))

pub returns-clause-found : goal.returns-clause-found
returns-clause-found c =
    let s = c.self.inside in
    let f = found_false s.vars s.watched (set_marks s) c.self.invariant.watched (apart_now s c.self.invariant) c.if-self-eq0.false in
    rw (← c.self.view_is) (f.0, known_watched s c.self.invariant (λ k. IsNumbered k s.watched.conflict f.0) f.1, f.2)

use Rattle.std.proofs.Common.{◌≡◌, ◌+◌, ◌-◌, ◌<◌, List, length, get_or, refl, ap, arith}
use Rattle.std.specs.Prelude.{Contains}
use Rattle.ut_logic.specs.declared.literals.Lit.{Lit}
use Rattle.sat_log.specs.Moves.{IsFalseClause, IsForcing}
use Rattle.sat_log.specs.TrailInside.{set_marks}
use Rattle.sat_log.proofs.Keeping.{calm}
use Rattle.sat_log.proofs.TrailLaws.{apart_now, read_now, watched_now, watched_known, known_watched, forcing_numbered, rewatched}
use Rattle.sat_log.proofs.trail.Trail.first_forcing.Goals as goal
use Rattle.sat_log.proofs.trail.Trail.first_forcing.Goals.{in-Some, in-None}

pub first_forcing-requires-clause-calm : goal.first_forcing-requires-clause-calm
first_forcing-requires-clause-calm c =
    let s = c.self.inside in
    let none = rw (← c.self.view_is) at c.requires in
    calm s.vars s.watched (set_marks s) c.self.invariant.watched (apart_now s c.self.invariant) (watched_known s c.self.invariant (λ k. (e : List Lit) → Contains k e → ¬ IsFalseClause (set_marks s) e) none)

pub first_forcing-requires-clause-watched : goal.first_forcing-requires-clause-watched
first_forcing-requires-clause-watched c =
    let s = c.self.inside in
    rw c.as_slice.ensures.value (set_marks s, read_now s c.self.invariant, watched_now s c.self.invariant)

pub invariant_of-self : goal.invariant_of-self
invariant_of-self c =
    rewatched c.self.inside c.self.invariant _ refl refl refl refl refl refl refl refl refl refl refl c.first_forcing.ensures.store (rw c.as_slice.ensures.value at c.first_forcing.ensures.watched)

pub returns-clause-found : goal.returns-clause-found
returns-clause-found c = elim c.match-first_forcing.branch [
  | in-Some w ↦
      let s = c.self.inside in
      let found = rw (w.in-Some.is, c.as_slice.ensures.value) at c.first_forcing.ensures.found in
      let q = found (set_marks s) (read_now s c.self.invariant) (watched_now s c.self.invariant) in
      rw (w.result-is, ← c.self.view_is) (forcing_numbered s c.self.invariant w.in-Some.place _ (ap (λ n. n + 1) w.from.ensures) q.0 q.1)
  | in-None w ↦ rw w.result-is tt
]

pub returns-clause-none : goal.returns-clause-none
returns-clause-none c = elim c.match-first_forcing.branch [
  | in-Some w ↦ rw w.result-is tt
  | in-None w ↦
      let s = c.self.inside in
      let none = rw (w.in-None.is, c.as_slice.ensures.value) at c.first_forcing.ensures.none in
      let quiet = none (set_marks s) (read_now s c.self.invariant) (watched_now s c.self.invariant) in
      rw (w.result-is, ← c.self.view_is) (known_watched s c.self.invariant (λ k. (e : List Lit) → Contains k e → ¬ IsForcing (set_marks s) e) quiet)
]

use Rattle.std.proofs.Common.{◌≡◌, ◌++◌, ◌∷◌, [], ◌<◌, ◌≤◌, refl, ap, sym, ◌∙◌, subst, take, length, vec_len, arith}
use Rattle.std.specs.Prelude.{All}
use Rattle.sat_log.specs.declared.marks.Mark.{Mark}
use Rattle.sat_log.specs.TrailInside.{set_marks}
use Rattle.sat_log.proofs.Jumping.{no_mark, jumps, front}
use Rattle.sat_log.proofs.JumpedTrail.{line_fits, learnable}
use Rattle.sat_log.proofs.Keeping.{restored}
use Rattle.sat_log.proofs.TrailLaws.{apart_now, vars_now, length_marks, regrown, jumped}
use Rattle.sat_log.proofs.trail.Trail.cut_at.Goals as goal

pub grow-requires : goal.grow-requires
grow-requires c = (c.self.inside.vars, set_marks c.self.inside, c.self.invariant.watched)

pub invariant_of-self : goal.invariant_of-self
invariant_of-self c =
    regrown c.self.inside c.self.invariant _ refl refl refl refl refl refl refl refl refl refl refl c.grow.ensures.store (c.grow.ensures.watched _ _ c.self.invariant.watched)

pub add_line-requires : goal.add_line-requires
add_line-requires c =
    let right = rw (← c.self.view_is) at c.requires.right in
    line_fits c.self.inside c.self.invariant c.args.derived right

pub invariant_of-self-in_err-add_line : goal.invariant_of-self-in_err-add_line
invariant_of-self-in_err-add_line c =
    let err = c.in_err-add_line.ensures.err in
    regrown c.self.inside c.self.invariant _ refl refl err.1 refl refl refl refl refl refl refl refl (err.0 ∙ c.grow.ensures.store) (restored _ _ _ _ (c.grow.ensures.watched _ _ c.self.invariant.watched) err.0 refl refl refl)

pub clear-requires-clause-apart : goal.clear-requires-clause-apart
clear-requires-clause-apart c = rw c.as_slice.ensures.value (apart_now c.self.inside c.self.invariant)

pub clear-requires-clause-vars : goal.clear-requires-clause-vars
clear-requires-clause-vars c =
    let s = c.self.inside in
    let e : s.vars ≡ vec_len s.values = omega (arith, s.values.ok.0, c.self.invariant.trail.told.0) in
    rw c.as_slice.ensures.value (subst (λ n. All (λ (m : Mark). (0 < m.lit.var) × (m.lit.var ≤ n)) (take s.set s.marks.items)) e (vars_now s c.self.invariant))

pub overflow_sub-self : goal.overflow_sub-self
overflow_sub-self c =
    let place = rw (← c.self.view_is) at c.requires.place in
    let within = (vars_now c.self.inside c.self.invariant c.args.place no_mark place.0.0).0 in
    rw c.as_slice.ensures.value within

pub learn-requires : goal.learn-requires
learn-requires c =
    let s = c.self.inside in
    let place = rw (← c.self.view_is) at c.requires.place in
    let right = rw (← c.self.view_is) at c.requires.right in
    let pair = rw (← c.self.view_is) at c.requires.watches in
    (s.vars, take c.args.place (set_marks s), learnable s c.self.invariant c.args.derived right c.args.place place _ _ (c.grow.ensures.watched _ _ c.self.invariant.watched) c.in_ok-add_line.ensures.ok.0 refl refl c.in_ok-grow.ensures.room c.in_ok-grow.ensures.next_room c.in_ok-grow.ensures.watch_room c.in_ok-grow.ensures.few_slots _ _ pair)

pub invariant_of-self-2 : goal.invariant_of-self-2
invariant_of-self-2 c =
    let s = c.self.inside in
    let e : vec_len s.values ≡ s.vars = omega (arith, s.values.ok.0, c.self.invariant.trail.told.0) in
    let place = rw (← c.self.view_is) at c.requires.place in
    let right = rw (← c.self.view_is) at c.requires.right in
    let pair = rw (← c.self.view_is) at c.requires.watches in
    let told = rw (c.as_slice.ensures.value, e) at c.clear.ensures in
    let ready = learnable s c.self.invariant c.args.derived right c.args.place place _ _ (c.grow.ensures.watched _ _ c.self.invariant.watched) c.in_ok-add_line.ensures.ok.0 refl refl c.in_ok-grow.ensures.room c.in_ok-grow.ensures.next_room c.in_ok-grow.ensures.watch_room c.in_ok-grow.ensures.few_slots _ _ pair in
    rw c.as_slice.ensures.value (jumped s c.self.invariant _ c.args.derived right c.args.place place refl refl (c.learn.ensures.store ∙ c.in_ok-add_line.ensures.ok.0 ∙ ap (λ t. t ++ c.args.derived.result ∷ []) c.grow.ensures.store) c.in_ok-add_line.ensures.ok.1 refl refl refl refl _ refl refl refl refl told (c.learn.ensures.learned _ _ ready))

pub returns-clause-ok : goal.returns-clause-ok
returns-clause-ok c =
    let s = c.self.inside in
    let place = rw (← c.self.view_is) at c.requires.place in
    let right = rw (← c.self.view_is) at c.requires.right in
    rw (← c.self.view_is, c.in_ok-add_line.ensures.ok.1)
    (rw (← front _ _ _ _ _ _ _ _ s.steps c.self.invariant.trail c.args.derived right c.args.place place) (jumps _ _ _ _ _ _ _ _ s.steps c.self.invariant.trail c.args.derived right c.args.place place))

use Rattle.std.proofs.Common.{subst, refl, sym, ◌∙◌, take}
use Rattle.sat_log.specs.Inner.{Tells}
use Rattle.sat_log.proofs.Jumping.{marks_apart}
use Rattle.sat_log.proofs.Reading.{value_tells, not_true}
use Rattle.sat_log.proofs.trail.Trail.is_true.Goals as goal

pub returns-in-True : goal.returns-in-True
returns-in-True c =
    let range = rw (← c.self.view_is) at c.requires in
    let s = c.self.inside in
    rw (← c.self.view_is) (λ e. subst (Tells (take s.set s.marks.items) c.args.var) (sym c.index.ensures ∙ c.in-True.is) (value_tells _ _ _ c.args.var _ c.self.invariant.trail.told range.0 range.1), λ i. refl)

pub returns-in_default : goal.returns-in_default
returns-in_default c =
    let range = rw (← c.self.view_is) at c.requires in
    let s = c.self.inside in
    rw (← c.self.view_is) (not_true _ _ _ (marks_apart _ _ _ _ _ _ _ _ s.steps c.self.invariant.trail) (subst (Tells (take s.set s.marks.items) c.args.var) (sym c.index.ensures) (value_tells _ _ _ c.args.var _ c.self.invariant.trail.told range.0 range.1)) c.in_default.not-True)

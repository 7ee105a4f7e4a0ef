use Rattle.sat_log.proofs.trail.Trail.steps.Goals as goal

pub returns-clause-reached : goal.returns-clause-reached
returns-clause-reached c = rw (← c.self.view_is) c.self.invariant.trail.reached

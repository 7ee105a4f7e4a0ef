use Rattle.std.proofs.Common.{refl}
use Rattle.log_check.proofs.Resolvents.{resolvent_once, resolvent_excludes}
use Rattle.log_check.proofs.running.RunningClause.resolve.Goals as goal

pub returns-then-not-found-clause-only : goal.returns-then-not-found-clause-only
returns-then-not-found-clause-only c = λ r other.
    let none = rw (c.as_slice.ensures.value, c.lits.ensures.value) at (rw c.if-not-found.true at c.in_ok-found.ensures) in
    absurd (resolvent_excludes _ _ _ r (rw (← c.self.view_is) at other) none)

pub returns-clause-only : goal.returns-clause-only
returns-clause-only c = λ r other.
    let found = rw (c.as_slice.ensures.value, c.lits.ensures.value) at (rw c.if-not-found.false at c.in_ok-found.ensures) in
    (refl, rw c.swap.ensures.x_after (resolvent_once _ _ _ _ r c.self.invariant found (rw (← c.self.view_is) at other)))

use Rattle.std.proofs.Common.{Some, ap, subst, sym}
use Rattle.ut_logic.specs.Clauses.{IsClause}
use Rattle.log_check.proofs.Resolvents.{resolvent_once, resolvent_excludes, resolvent_clause}
use Rattle.log_check.proofs.resolving.resolve.Goals as goal

pub new-requires : goal.new-requires
new-requires c =
    let found = rw (c.lits.ensures.value, c.lits-2.ensures.value) at (rw c.if-found.true at c.in_ok-found.ensures) in
    subst IsClause (sym c.as_slice.ensures.value) (resolvent_clause _ _ _ _ c.lits.ensures.counted c.lits-2.ensures.counted found)

pub returns-then-found-clause-only : goal.returns-then-found-clause-only
returns-then-found-clause-only c = λ r other.
    let found = rw (c.lits.ensures.value, c.lits-2.ensures.value) at (rw c.if-found.true at c.in_ok-found.ensures) in
    rw (c.in_ok-new.ensures, c.as_slice.ensures.value) (ap Some (resolvent_once _ _ _ _ r c.lits.ensures.ordered found other))

pub returns-clause-only : goal.returns-clause-only
returns-clause-only c = λ r other.
    let none = rw (c.lits.ensures.value, c.lits-2.ensures.value) at (rw c.if-found.false at c.in_ok-found.ensures) in
    absurd (resolvent_excludes _ _ _ r other none)

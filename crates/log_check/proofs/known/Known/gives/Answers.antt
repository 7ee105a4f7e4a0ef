use Rattle.std.proofs.Common.{sym, ◌∙◌}
use Rattle.std.proofs.lemmas.Bool.{false≢true}
use Rattle.log_check.proofs.Deriving.{pair_found, pair_unresolved, iff_both}
use Rattle.log_check.proofs.known.Known.gives.Goals as goal

pub returns-then-not-branch : goal.returns-then-not-branch
returns-then-not-branch c = (
  λ e. absurd (false≢true e),
  λ g. absurd (pair_unresolved _ _ _ _ _ _ _ c.loop-pair-test.true c.in-Some-clause.ensures.found
      (λ s m. let only = c.in_ok-resolve.ensures.only s m in false≢true (sym c.if-not-branch.true ∙ only.0))
      (c.loop-pair.invariant.1 g)),
)

pub loop-pair-preserved : goal.loop-pair-preserved
loop-pair-preserved c =
    iff_both (pair_found _ _ _ _ _ _ _ _ c.loop-pair-test.true c.in-Some-clause.ensures.found
    (rw c.if-not-branch.false at c.in_ok-resolve.ensures.found)
    (λ s m. (c.in_ok-resolve.ensures.only s m).1)) c.loop-pair.invariant

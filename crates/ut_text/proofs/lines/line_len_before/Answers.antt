use Rattle.std.proofs.Common.{◌≡◌, subst, slice_index, arith}
use Rattle.ut_text.proofs.LinesLemmas.{ends_at, ends_before}
use Rattle.ut_text.proofs.lines.line_len_before.Goals as goal
use Rattle.ut_text.proofs.lines.line_len_before.Goals.{else-newline-gt0-via-then-newline-gt0+else-text-newline-eq13, else-newline-gt0-via-else-newline-gt0}

pub returns-then-text-newline-eq13-clause-value : goal.returns-then-text-newline-eq13-clause-value
returns-then-text-newline-eq13-clause-value c = ends_before c.args.text.now c.args.newline c.if-newline-gt0.true c.requires c.if-text-newline-eq13.true

pub returns-else-newline-gt0-clause-value : goal.returns-else-newline-gt0-clause-value
returns-else-newline-gt0-clause-value c = ends_at c.args.text.now c.args.newline c.requires (elim c.else-newline-gt0.branch [
  | else-newline-gt0-via-then-newline-gt0+else-text-newline-eq13 w ↦ (λ i is r. w.if-text-newline-eq13.false (subst (λ k. slice_index c.args.text.now k ≡ 13) (omega (arith, is)) r))
  | else-newline-gt0-via-else-newline-gt0 w ↦ (λ i is r. absurd (omega (arith, is, w.if-newline-gt0.false)))
])

use Rattle.std.proofs.Common.{Err, ap, sym, ◌∙◌}
use Rattle.std.proofs.lemmas.Result.{err_from_is_err_and}
use Rattle.log_check.proofs.TextLaws.{text_once, said_is_text, bad_is_oom}
use Rattle.log_check.proofs.texts.read_derivation.Goals as goal

pub returns-in_err-lines-clause-only : goal.returns-in_err-lines-clause-only
returns-in_err-lines-clause-only c = λ n lines h.
    let p = err_from_is_err_and c.from_residual.result c.from_residual.ensures.1 in
    rw (p.1, p.2) (bad_is_oom _ _ (λ number e. c.in_err-lines.ensures.line number (ap Err e)) n lines h)

pub returns-clause-reads : goal.returns-clause-reads
returns-clause-reads c = rw c.from_vec.ensures (said_is_text _ _ c.in_ok-lines.ensures.reads)

pub returns-clause-only : goal.returns-clause-only
returns-clause-only c = λ n lines h.
    rw c.from_vec.ensures (text_once _ n _ lines c.in_ok-lines.ensures.reads h)

pub returns-in_err-lines-clause-line : goal.returns-in_err-lines-clause-line
returns-in_err-lines-clause-line c = λ number e.
    let p = err_from_is_err_and c.from_residual.result c.from_residual.ensures.1 in
    let same = sym (p.1 ∙ ap Err p.2) ∙ e in
    c.in_err-lines.ensures.line number (cc)

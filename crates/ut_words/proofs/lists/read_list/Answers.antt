use Rattle.std.proofs.Common.{Err, ap, sym, ◌∙◌}
use Rattle.std.proofs.lemmas.Result.{err_from_is_err_and}
use Rattle.ut_words.proofs.ListLaws.{bad_is_oom, list_once}
use Rattle.ut_words.proofs.lists.read_list.Goals as goal

pub returns-in_err-wishes-clause-only : goal.returns-in_err-wishes-clause-only
returns-in_err-wishes-clause-only c = λ wishes h.
    let p = err_from_is_err_and c.from_residual.result c.from_residual.ensures.1 in
    rw (p.1, p.2) (bad_is_oom c.args.kind c.args.bytes.now _ (λ number e. c.in_err-wishes.ensures.line number (ap Err e)) wishes h)

pub returns-clause-only : goal.returns-clause-only
returns-clause-only c = λ wishes h. list_once c.args.kind c.args.bytes.now _ wishes c.in_ok-wishes.ensures.reads h

pub returns-in_err-wishes-clause-line : goal.returns-in_err-wishes-clause-line
returns-in_err-wishes-clause-line c = λ number e.
    let p = err_from_is_err_and c.from_residual.result c.from_residual.ensures.1 in
    let same = sym (p.1 ∙ ap Err p.2) ∙ e in
    c.in_err-wishes.ensures.line number (cc)

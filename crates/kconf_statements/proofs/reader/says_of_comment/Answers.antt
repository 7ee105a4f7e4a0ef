use Rattle.std.proofs.lemmas.Result.{err_from_is_err_and}
use Rattle.kconf_statements.proofs.PlaceLaws.{after_comment, after_comment_bad}
use Rattle.kconf_statements.proofs.reader.says_of_comment.Goals as goal

pub returns : goal.returns
returns c = after_comment c.args.attribute c.args.words.now _ c.in_ok-comment_line.ensures

pub returns-in_err-comment_line : goal.returns-in_err-comment_line
returns-in_err-comment_line c =
    let p = err_from_is_err_and c.from_residual.result c.from_residual.ensures.1 in
    rw (p.1, p.2) (after_comment_bad c.args.attribute c.args.words.now c.in_err-comment_line.field-0.0 c.in_err-comment_line.ensures)

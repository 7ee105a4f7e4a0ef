use Rattle.std.proofs.lemmas.Result.{err_from_is_err_and}
use Rattle.kconf_statements.proofs.PlaceLaws.{after_choice, after_choice_bad}
use Rattle.kconf_statements.proofs.reader.says_of_choice.Goals as goal

pub returns : goal.returns
returns c = after_choice c.args.attribute c.args.words.now c.in_ok-line.line c.in_ok-line.ensures

pub returns-in_err-line : goal.returns-in_err-line
returns-in_err-line c =
    let p = err_from_is_err_and c.from_residual.result c.from_residual.ensures.1 in
    rw (p.1, p.2) (after_choice_bad c.args.attribute c.args.words.now c.in_err-line.field-0.0 c.in_err-line.ensures)

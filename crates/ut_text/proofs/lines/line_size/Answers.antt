use Rattle.std.proofs.Common.{◌-◌, ◌∙◌, length, drop, length-drop, ap, arith}
use Rattle.std.proofs.lemmas.List.{take_all}
use Rattle.ut_text.specs.LineEnds.{end_size}
use Rattle.ut_text.proofs.LineSizeLemmas.{line_and_rest}
use Rattle.ut_text.proofs.lines.line_size.Goals as goal

pub returns-clause-line : goal.returns-clause-line
returns-clause-line c =
    let text = c.args.text.now in
    let len = c.line_len-len.result in
    let rest = take_all (length text - len) (drop len text) (omega (arith, length-drop len text)) in
    line_and_rest text len c.end_size.result c.requires c.line_len-len.ensures.value (c.end_size.ensures.value ∙ ap end_size rest)

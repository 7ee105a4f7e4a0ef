use Rattle.std.proofs.Common.{ap, ◌∙◌}
use Rattle.line_texts.specs.Lines.{whole_lines}
use Rattle.line_texts.proofs.LineLaws.{whole_line_and_rest, plain_before, plain_whole, cut_at_newline}
use Rattle.line_texts.proofs.lines.split_whole_line.Goals as goal

pub returns-in-Some-clause-found : goal.returns-in-Some-clause-found
returns-in-Some-clause-found c =
    ap whole_lines (cut_at_newline c.args.text.now c.in-Some.newline c.in-Some.ensures)
    ∙ whole_line_and_rest _ _ (plain_before c.args.text.now c.in-Some.newline c.in-Some.ensures)

pub returns-in-Some-clause-plain : goal.returns-in-Some-clause-plain
returns-in-Some-clause-plain c = plain_before c.args.text.now c.in-Some.newline c.in-Some.ensures

pub returns-in-None-clause-none : goal.returns-in-None-clause-none
returns-in-None-clause-none c = plain_whole c.args.text.now c.in-None.ensures

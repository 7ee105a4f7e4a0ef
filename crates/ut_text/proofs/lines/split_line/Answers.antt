use Rattle.std.proofs.Common.{◌∙◌, refl}
use Rattle.ut_text.proofs.LinesLemmas.{first_line, rest_shorter}
use Rattle.ut_text.proofs.lines.split_line.Goals as goal

pub returns-clause-lines : goal.returns-clause-lines
returns-clause-lines c = first_line c.args.text.now c.requires ∙ rw (c.split_at.ensures.front, c.after_end.ensures, c.split_at.ensures.back, c.line_len.ensures.value) refl

pub returns-clause-shorter : goal.returns-clause-shorter
returns-clause-shorter c = rw (c.after_end.ensures, c.split_at.ensures.back, c.line_len.ensures.value) (rest_shorter c.args.text.now c.requires)

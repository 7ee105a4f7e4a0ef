use Rattle.ut_text.proofs.LinesLemmas.{no_end}
use Rattle.ut_text.proofs.lines.line_len.Goals as goal

pub returns-in-None-clause-value : goal.returns-in-None-clause-value
returns-in-None-clause-value c = no_end c.args.text.now c.in-None.ensures

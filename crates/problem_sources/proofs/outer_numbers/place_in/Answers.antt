use Rattle.std.proofs.Common.{sym, ◌∙◌}
use Rattle.ut_text.specs.Text.{text_eq}
use Rattle.problem_sources.proofs.PlaceLaws.{past_all}
use Rattle.problem_sources.proofs.outer_numbers.place_in.Goals as goal

pub returns-in-None-clause-place : goal.returns-in-None-clause-place
returns-in-None-clause-place c = c.len.ensures.len ∙ sym (past_all (text_eq c.args.text.now) c.args.set.now.keys (sym c.in-None.ensures.index))

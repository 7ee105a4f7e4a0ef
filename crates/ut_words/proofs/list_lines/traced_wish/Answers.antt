use Rattle.std.proofs.Common.{◌∙◌, sym}
use Rattle.ut_words.proofs.NumberLaws.{none_is, some_is}
use Rattle.ut_words.proofs.ListLines.{is_trace_line, no_file, no_place, no_trace}
use Rattle.ut_words.proofs.list_lines.traced_wish.Goals as goal

pub returns-in_default : goal.returns-in_default
returns-in_default c = no_trace _ (no_place _ c.in_default.ensures)

pub returns-in_default-2 : goal.returns-in_default-2
returns-in_default-2 c = no_trace _ (no_file _ _ _ c.in-Some.ensures (none_is _ _ (sym c.in_default-2.is ∙ c.in_ok-file.ensures)))

pub returns : goal.returns
returns c = is_trace_line _ _ _ _ c.in-Some.ensures (some_is _ _ _ (sym c.in-Some-2.is ∙ c.in_ok-file.ensures))

use Rattle.std.proofs.Common.{sym, ◌∙◌}
use Rattle.cpp_read.proofs.SplicesLemmas.{return_passes, join_passes, return_join_passes}
use Rattle.cpp_read.proofs.cursor.past_one.Goals as goal

pub returns-then-at_return : goal.returns-then-at_return
returns-then-at_return c = return_passes c.args.bytes.now c.args.at c.args.line c.requires (sym c.at_return.ensures ∙ c.if-at_return.true)

pub returns-then-at_join : goal.returns-then-at_join
returns-then-at_join c = join_passes c.args.bytes.now c.args.at c.args.line c.requires (sym c.at_join.ensures ∙ c.if-at_join.true)

pub returns-then-at_return_join : goal.returns-then-at_return_join
returns-then-at_return_join c = return_join_passes c.args.bytes.now c.args.at c.args.line c.requires (sym c.at_return_join.ensures ∙ c.if-at_return_join.true)

use Rattle.cpp_blocks.proofs.AlikeLaws.{lines_matter_nowhere}
use Rattle.cpp_blocks.proofs.laws.lines_matter_where_truths_are_free.Goals as goal

pub returns : goal.returns
returns c = lines_matter_nowhere

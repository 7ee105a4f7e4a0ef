use Rattle.cpp_blocks.proofs.AlikeLaws.{runs_alike}
use Rattle.cpp_blocks.proofs.laws.runs_rest_on_what_is_named.Goals as goal

pub returns : goal.returns
returns c = runs_alike

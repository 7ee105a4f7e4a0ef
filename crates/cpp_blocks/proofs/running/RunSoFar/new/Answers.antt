use Rattle.cpp_blocks.proofs.RunLaws.{begins}
use Rattle.cpp_blocks.proofs.running.RunSoFar.new.Goals as goal

pub returns : goal.returns
returns c = λ start same. begins start c.args.built (record { blocks = c.in_ok-blocks.blocks; states = c.new-states.result }) c.in_ok-blocks.ensures c.new-states.ensures same

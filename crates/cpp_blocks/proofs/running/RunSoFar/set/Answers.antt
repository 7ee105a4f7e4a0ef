use Rattle.std.proofs.Common.{sym, ◌∙◌}
use Rattle.cpp_blocks.proofs.RunLaws.{sets_on}
use Rattle.cpp_blocks.proofs.running.RunSoFar.set.Goals as goal

pub returns-in_ok-set : goal.returns-in_ok-set
returns-in_ok-set c = λ start r h. sets_on start c.args.self.now c.set.new.self r c.args.name.now c.args.state (sym c.is_on.ensures ∙ c.if-is_on.true) c.in_ok-set.ensures h

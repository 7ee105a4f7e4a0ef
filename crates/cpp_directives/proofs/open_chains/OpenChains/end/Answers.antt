use Rattle.cpp_directives.proofs.StackLaws.{stack_ends}
use Rattle.cpp_directives.proofs.open_chains.OpenChains.end.Goals as goal

pub returns : goal.returns
returns c = λ before s. stack_ends c.innermost.result c.args.self.now before s c.innermost.ensures

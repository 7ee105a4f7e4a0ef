use Rattle.cpp_directives.proofs.StackLaws.{steps_pass}
use Rattle.cpp_directives.proofs.open_chains.OpenChains.pass.Goals as goal

pub returns : goal.returns
returns c = λ before s. steps_pass c.step.result c.step.new.self c.args.part c.args.line c.args.self.now before s c.step.ensures

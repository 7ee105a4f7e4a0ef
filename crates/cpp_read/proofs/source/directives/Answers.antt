use Rattle.cpp_read.proofs.DirectivesLemmas.{formed_source}
use Rattle.cpp_read.proofs.source.directives.Goals as goal

pub returns-clause-formed : goal.returns-clause-formed
returns-clause-formed c = formed_source c.in_ok-source.source c.args.bytes.now c.in_ok-source.ensures

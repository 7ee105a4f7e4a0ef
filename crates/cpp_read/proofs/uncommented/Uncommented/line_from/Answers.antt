use Rattle.std.proofs.Common.{ap, arith, length}
use Rattle.cpp_read.proofs.LogicalLinesLemmas.{after_shorter}
use Rattle.cpp_read.proofs.uncommented.Uncommented.line_from.Goals as goal

pub returns-then-placed-eq35-clause-moves : goal.returns-then-placed-eq35-clause-moves
returns-then-placed-eq35-clause-moves c = omega (arith, after_shorter c.loop-placed.self, ap length c.in_ok-end.ensures.after)

pub returns-clause-moves : goal.returns-clause-moves
returns-clause-moves c = omega (arith, after_shorter c.loop-placed.self, ap length c.skip_line-end.ensures.after)

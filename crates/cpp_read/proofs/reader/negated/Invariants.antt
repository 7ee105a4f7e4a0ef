-- The condition, negated as often as was passed.
use Rattle.std.proofs.Common.{◌≡◌}
use Rattle.cpp_read.specs.Rows.{nots}
use Rattle.cpp_read.proofs.reader.negated.Given as goal

abbrev pub invariant-loop-time : goal.invariant-loop-time
invariant-loop-time l = l.whole ≡ nots l.time l.fn.cond

-- No more than at first.
use Rattle.std.proofs.Common.{◌≤◌}
use Rattle.cpp_read.proofs.nest.least_open.Given as goal

abbrev pub invariant-loop-token : goal.invariant-loop-token
invariant-loop-token l = l.least ≤ l.fn.before

-- At most what was passed.
use Rattle.std.proofs.Common.{◌≤◌}
use Rattle.cpp_read.proofs.nest.close_len.Given as goal

abbrev pub invariant-loop-token : goal.invariant-loop-token
invariant-loop-token l = l.count ≤ l.token-index

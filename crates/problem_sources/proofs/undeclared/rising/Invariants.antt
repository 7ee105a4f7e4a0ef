-- The names so far.
use Rattle.std.proofs.Common.{◌≡◌}
use Rattle.problem_sources.proofs.undeclared.rising.Given as goal

abbrev pub invariant-loop-name : goal.invariant-loop-name
invariant-loop-name l = l.names.items ≡ l.yielded

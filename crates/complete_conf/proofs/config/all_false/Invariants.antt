-- One truth for each number so far.
use Rattle.std.proofs.Common.{◌≡◌, false, replicate}
use Rattle.complete_conf.proofs.config.all_false.Given as goal

abbrev pub invariant-loop-number : goal.invariant-loop-number
invariant-loop-number l = l.list.items ≡ replicate l._number false

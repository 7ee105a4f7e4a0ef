-- One n for each number so far.
use Rattle.std.proofs.Common.{◌≡◌, replicate}
use Rattle.ut_logic.specs.declared.trit.Trit.TheVariants.{N}
use Rattle.complete_conf.proofs.config.all_n.Given as goal

abbrev pub invariant-loop-number : goal.invariant-loop-number
invariant-loop-number l = l.list.items ≡ replicate l._number N

use Rattle.std.proofs.Common.{◌+◌, ◌-◌, length}
use Rattle.log_check.specs.Merging.{Merged, IsMet}
use Rattle.log_check.proofs.resolving.resolve_into.Given as goal

abbrev pub invariant-loop-i : goal.invariant-loop-i
invariant-loop-i l = record {
  merged : Merged l.a l.b l.pivot l.i l.j l.out.items;
  met : IsMet l.a l.b l.pivot l.i l.met;
}

abbrev pub decreases-loop-i : goal.decreases-loop-i
decreases-loop-i l = (length l.a - l.i) + (length l.b - l.j)

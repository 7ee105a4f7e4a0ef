use Rattle.std.proofs.Common.{◌≡◌, vec_len}
use Rattle.sat_log.proofs.Clearing.{AreCleared}
use Rattle.sat_log.proofs.values.clear.Given as goal

abbrev pub invariant-loop-i : goal.invariant-loop-i
invariant-loop-i l = record {
  len : vec_len l.values ≡ vec_len l.fn.values;
  cleared : AreCleared (vec_len l.fn.values) l.marks l.from l.i l.values.items;
}

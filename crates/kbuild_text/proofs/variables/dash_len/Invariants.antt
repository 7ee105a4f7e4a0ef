use Rattle.std.proofs.Common.{◌≡◌, ◌≤◌, take}
use Rattle.kbuild_text.specs.Variables as spec
use Rattle.kbuild_text.proofs.variables.dash_len.Given as goal

abbrev pub invariant-loop-i : goal.invariant-loop-i
invariant-loop-i l = record {
  so_far : l.end ≡ spec.dash_len (take l.i l.variable);
  within : l.end ≤ l.i;
}

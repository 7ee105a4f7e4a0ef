use Rattle.std.proofs.Common.{◌≡◌, ◌++◌, drop}
use Rattle.kbuild_text.specs.Marks as spec
use Rattle.kbuild_text.proofs.marks.push_bytes.Given as goal

abbrev pub invariant-loop-mark : goal.invariant-loop-mark
invariant-loop-mark l = l.bytes.items ++ spec.bytes_of (drop l.mark-index l.marks) ≡ l.initial.bytes.items ++ spec.bytes_of l.marks

use Rattle.std.proofs.Common.{◌≡◌, ◌≤◌, ◌++◌, drop}
use Rattle.kbuild_text.specs.Marks as spec
use Rattle.kbuild_text.proofs.marks.push_marks.Given as goal

abbrev pub invariant-loop-byte : goal.invariant-loop-byte
invariant-loop-byte l = record {
  so_far : l.marks.items ++ spec.marks_from l.place (drop l.byte-index l.line) ≡ l.fn.marks.items ++ spec.marks_of l.line;
  depth : spec.depth_of l.place ≤ l.byte-index;
}

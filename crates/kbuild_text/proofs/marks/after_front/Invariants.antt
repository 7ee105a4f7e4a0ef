use Rattle.std.proofs.Common.{◌≡◌, drop}
use Rattle.kbuild_text.specs.Marks as spec
use Rattle.kbuild_text.proofs.marks.after_front.Given as goal

abbrev pub invariant-loop-byte : goal.invariant-loop-byte
invariant-loop-byte l = spec.after_front l.rest (drop l.byte-index l.bytes) ≡ spec.after_front l.marks l.bytes

-- What is counted and what is left.
use Rattle.std.proofs.Common.{◌≡◌, ◌+◌, ◌==◌, not, drop}
use Rattle.std.specs.List.{prefix_len}
use Rattle.ut_text.specs.Bytes.{number_sign}
use Rattle.kbuild_text.proofs.lines.uncommented.Given as goal

abbrev pub invariant-loop-byte : goal.invariant-loop-byte
invariant-loop-byte l = record {
  index : l.end ≡ l.byte-index;
  left : l.end + prefix_len (λ b. not (b == number_sign)) (drop l.byte-index l.line) ≡ prefix_len (λ b. not (b == number_sign)) l.line;
}

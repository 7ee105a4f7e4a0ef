-- What is counted and what is left.
use Rattle.std.proofs.Common.{◌≡◌, ◌+◌, drop}
use Rattle.std.specs.List.{prefix_len}
use Rattle.ut_text.specs.ByteClasses.{is_blank}
use Rattle.ut_text.proofs.runs.blanks.Given as goal

abbrev pub invariant-loop-byte : goal.invariant-loop-byte
invariant-loop-byte l = record {
  index : l.count ≡ l.byte-index;
  left : l.count + prefix_len is_blank (drop l.byte-index l.text) ≡ prefix_len is_blank l.text;
}

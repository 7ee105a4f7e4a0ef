-- What is counted and what is left.
use Rattle.std.proofs.Common.{◌≡◌, ◌+◌, drop}
use Rattle.std.specs.List.{prefix_len}
use Rattle.cpp_read.specs.LogicalLines.{is_white}
use Rattle.cpp_read.proofs.words.white_len.Given as goal

abbrev pub invariant-loop-byte : goal.invariant-loop-byte
invariant-loop-byte l = record {
  index : l.count ≡ l.byte-index;
  left : l.count + prefix_len is_white (drop l.byte-index l.text) ≡ prefix_len is_white l.text;
}

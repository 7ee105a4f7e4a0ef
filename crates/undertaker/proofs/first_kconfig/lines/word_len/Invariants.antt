-- What is counted and what is left.
use Rattle.std.proofs.Common.{◌≡◌, ◌+◌, drop}
use Rattle.std.specs.List.{prefix_len}
use Rattle.undertaker.specs.FirstKconfig.Form.{is_word_byte}
use Rattle.undertaker.proofs.first_kconfig.lines.word_len.Given as goal

abbrev pub invariant-loop-byte : goal.invariant-loop-byte
invariant-loop-byte l = record {
  index : l.count ≡ l.byte-index;
  left : l.count + prefix_len is_word_byte (drop l.byte-index l.text) ≡ prefix_len is_word_byte l.text;
}

-- What is counted and what is left.
use Rattle.std.proofs.Common.{◌≡◌, ◌+◌, ◌==◌, not, drop}
use Rattle.std.specs.List.{prefix_len}
use Rattle.ut_text.specs.Bytes.{space}
use Rattle.cpp_directives.proofs.piece_words.word_len.Given as goal

abbrev pub invariant-loop-byte : goal.invariant-loop-byte
invariant-loop-byte l = record {
  index : l.count ≡ l.byte-index;
  left : l.count + prefix_len (λ b. not (b == space)) (drop l.byte-index l.text) ≡ prefix_len (λ b. not (b == space)) l.text;
}

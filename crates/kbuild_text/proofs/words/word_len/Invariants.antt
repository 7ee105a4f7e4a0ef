-- What is counted and what is left.
use Rattle.std.proofs.Common.{◌≡◌, ◌+◌, drop}
use Rattle.std.specs.List.{prefix_len}
use Rattle.kbuild_text.specs.Words.{is_of_word}
use Rattle.kbuild_text.proofs.words.word_len.Given as goal

abbrev pub invariant-loop-mark : goal.invariant-loop-mark
invariant-loop-mark l = record {
  index : l.count ≡ l.mark-index;
  left : l.count + prefix_len is_of_word (drop l.mark-index l.line) ≡ prefix_len is_of_word l.line;
}

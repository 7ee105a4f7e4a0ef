-- What is counted and what is left.
use Rattle.std.proofs.Common.{◌≡◌, ◌+◌, drop}
use Rattle.std.specs.List.{prefix_len}
use Rattle.kbuild_text.specs.Words.{separates}
use Rattle.kbuild_text.proofs.words.separators.Given as goal

abbrev pub invariant-loop-mark : goal.invariant-loop-mark
invariant-loop-mark l = record {
  index : l.count ≡ l.mark-index;
  left : l.count + prefix_len separates (drop l.mark-index l.line) ≡ prefix_len separates l.line;
}

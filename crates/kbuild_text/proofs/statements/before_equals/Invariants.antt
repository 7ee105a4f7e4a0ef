-- What is counted and what is left.
use Rattle.std.proofs.Common.{◌≡◌, ◌+◌, drop}
use Rattle.std.specs.List.{prefix_len}
use Rattle.kbuild_text.specs.Statements.{is_before_equals}
use Rattle.kbuild_text.proofs.statements.before_equals.Given as goal

abbrev pub invariant-loop-mark : goal.invariant-loop-mark
invariant-loop-mark l = record {
  index : l.count ≡ l.mark-index;
  left : l.count + prefix_len is_before_equals (drop l.mark-index l.line) ≡ prefix_len is_before_equals l.line;
}

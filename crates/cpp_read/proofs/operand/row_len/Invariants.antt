-- What is counted and what is left.
use Rattle.std.proofs.Common.{◌≡◌, ◌+◌, drop}
use Rattle.std.specs.List.{prefix_len}
use Rattle.cpp_read.specs.Signs.{is_not}
use Rattle.cpp_read.proofs.operand.row_len.Given as goal

abbrev pub invariant-loop-token : goal.invariant-loop-token
invariant-loop-token l = record {
  index : l.count ≡ l.token-index;
  left : l.count + prefix_len is_not (drop l.token-index l.tokens) ≡ prefix_len is_not l.tokens;
}

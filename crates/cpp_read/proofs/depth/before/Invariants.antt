-- What is counted and what is left.
use Rattle.std.proofs.Common.{◌≡◌, ◌+◌, ◌≤◌, drop}
use Rattle.cpp_read.specs.Depth.{before_at}
use Rattle.cpp_read.proofs.depth.before.Given as goal

abbrev pub invariant-loop-token : goal.invariant-loop-token
invariant-loop-token l = record {
  index : l.count ≡ l.token-index;
  depth : l.depth ≤ l.count;
  left : l.count + before_at l.joint l.depth (drop l.token-index l.tokens) ≡ before_at l.joint 0 l.tokens;
}

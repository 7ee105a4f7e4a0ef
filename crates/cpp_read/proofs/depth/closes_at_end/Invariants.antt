-- What is left decides.
use Rattle.std.proofs.Common.{◌≡◌, ◌+◌, ◌≤◌, drop}
use Rattle.cpp_read.specs.Depth.{closes_at_end}
use Rattle.cpp_read.proofs.depth.closes_at_end.Given as goal

abbrev pub invariant-loop-token : goal.invariant-loop-token
invariant-loop-token l = record {
  index : l.count ≡ l.token-index;
  depth : l.depth ≤ l.count + 1;
  left : closes_at_end l.depth (drop l.token-index l.tokens) ≡ closes_at_end 1 l.tokens;
}

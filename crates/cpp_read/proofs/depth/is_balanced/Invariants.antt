-- What is left decides.
use Rattle.std.proofs.Common.{◌≡◌, ◌≤◌, drop}
use Rattle.cpp_read.specs.Depth.{is_balanced}
use Rattle.cpp_read.proofs.depth.is_balanced.Given as goal

abbrev pub invariant-loop-token : goal.invariant-loop-token
invariant-loop-token l = record {
  depth : l.depth ≤ l.token-index;
  left : is_balanced l.depth (drop l.token-index l.tokens) ≡ is_balanced 0 l.tokens;
}

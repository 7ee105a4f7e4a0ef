-- What is left, passed from here, gives the whole.
use Rattle.std.proofs.Common.{◌≡◌, drop}
use Rattle.cpp_blocks.specs.Nested.{nothing, all_passed}
use Rattle.cpp_blocks.proofs.nesting.Nesting.of.Given as goal

abbrev pub invariant-loop-place : goal.invariant-loop-place
invariant-loop-place l = all_passed l.place (drop l.place l.list) l.nesting ≡ all_passed 0 l.list nothing

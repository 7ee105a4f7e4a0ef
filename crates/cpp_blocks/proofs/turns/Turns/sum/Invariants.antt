-- The sum so far.
use Rattle.std.proofs.Common.{◌≡◌, take}
use Rattle.std.specs.List.{sum_by}
use Rattle.cpp_blocks.specs.Counted.{turn_in}
use Rattle.cpp_blocks.proofs.turns.Turns.sum.Given as goal

abbrev pub invariant-loop-name : goal.invariant-loop-name
invariant-loop-name l = l.turn ≡ sum_by (turn_in l.self) (take l.name-index l.names)

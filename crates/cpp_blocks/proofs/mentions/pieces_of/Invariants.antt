-- The turns are those of the directives passed, and the pieces so far and those of what is left are all.
use Rattle.std.proofs.Common.{◌≡◌, drop, take}
use Rattle.cpp_blocks.specs.Counted.{IsCounted}
use Rattle.cpp_blocks.specs.Mentions.{firsts}
use Rattle.cpp_blocks.specs.PieceIdentity.{piece_eq}
use Rattle.cpp_blocks.specs.Turns.{touched_in, pieces_from, pieces_of}
use Rattle.cpp_blocks.proofs.mentions.pieces_of.Given as goal

abbrev pub invariant-loop-directive : goal.invariant-loop-directive
invariant-loop-directive l = IsCounted l.turns (touched_in (take l.directive-index l.list)) × (firsts piece_eq l.pieces.keys (pieces_from (touched_in (take l.directive-index l.list)) (drop l.directive-index l.list)) ≡ pieces_of l.list)

-- The pieces so far and those of what is left are all.
use Rattle.std.proofs.Common.{◌≡◌, drop, map}
use Rattle.std.specs.List.{flat_map}
use Rattle.cpp_blocks.specs.Counted.{piece_turn}
use Rattle.cpp_blocks.specs.Mentions.{firsts}
use Rattle.cpp_blocks.specs.PieceIdentity.{piece_eq}
use Rattle.cpp_blocks.specs.Turns.{pieces_in}
use Rattle.cpp_blocks.proofs.mentions.+pieces.Given as goal

abbrev pub invariant-add_pieces_each-loop-part : goal.invariant-add_pieces_each-loop-part
invariant-add_pieces_each-loop-part l = firsts piece_eq l.pieces.keys (flat_map (λ found. found) (map (pieces_in (piece_turn l.turns)) (drop l.part-index l.list))) ≡ firsts piece_eq l.fn.pieces.keys (flat_map (λ found. found) (map (pieces_in (piece_turn l.turns)) l.list))

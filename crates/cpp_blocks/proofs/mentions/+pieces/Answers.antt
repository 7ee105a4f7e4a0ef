use Rattle.std.proofs.Common.{◌+◌, sym, ap, ◌∙◌, drop, map, arith}
use Rattle.std.specs.List.{flat_map}
use Rattle.cpp_blocks.specs.Counted.{piece_turn}
use Rattle.cpp_blocks.specs.Mentions.{firsts}
use Rattle.cpp_blocks.specs.PieceIdentity.{piece_eq}
use Rattle.cpp_blocks.specs.Turns.{pieces_in}
use Rattle.cpp_blocks.proofs.FirstsLaws.{firsts_map_next}
use Rattle.cpp_blocks.proofs.mentions.+pieces.Goals as goal

pub add_pieces_each-loop-part-preserved : goal.add_pieces_each-loop-part-preserved
add_pieces_each-loop-part-preserved t c =
    ap (λ ks. firsts piece_eq ks (flat_map (λ found. found) (map (pieces_in (piece_turn c.args.turns.now)) (drop (c.loop-part.part-index + 1) c.args.list.now)))) (c.in_ok-add_pieces.ensures ∙ ap (λ x. firsts piece_eq c.loop-part.pieces.keys (pieces_in (piece_turn c.args.turns.now) x)) c.part-item.is)
    ∙ (sym (firsts_map_next piece_eq (pieces_in (piece_turn c.args.turns.now)) c.loop-part.pieces.keys c.args.list.now c.loop-part.part-index c.part-item.result (omega (arith, c.loop-part-test.true))) ∙ c.loop-part.invariant)

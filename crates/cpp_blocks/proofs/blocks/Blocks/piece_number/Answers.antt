use Rattle.std.proofs.Common.{sym, ap, ◌∙◌}
use Rattle.std.specs.List.{position_or_len}
use Rattle.cpp_blocks.specs.PieceIdentity.{piece_eq}
use Rattle.cpp_blocks.specs.Turns.{pieces_of}
use Rattle.cpp_blocks.proofs.FirstsLaws.{absent}
use Rattle.cpp_blocks.proofs.blocks.Blocks.piece_number.Goals as goal

pub returns-in-None : goal.returns-in-None
returns-in-None c = c.len.ensures.len
    ∙ (absent (piece_eq c.args.piece.now) c.self.inside.pieces.keys (sym c.in-None.is ∙ c.get_index_of.ensures.index)
    ∙ ap (position_or_len (piece_eq c.args.piece.now)) (c.self.invariant.pieces_are ∙ ap pieces_of c.self.view_is))

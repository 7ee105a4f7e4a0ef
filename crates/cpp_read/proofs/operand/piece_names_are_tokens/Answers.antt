use Rattle.cpp_read.proofs.PieceTextLaws.{names_are_tokens}
use Rattle.cpp_read.proofs.operand.piece_names_are_tokens.Goals as goal

pub returns : goal.returns
returns c = names_are_tokens

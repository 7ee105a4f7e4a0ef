use Rattle.cpp_blocks.proofs.OnceLaws.{numbers_once}
use Rattle.cpp_blocks.proofs.laws.names_pieces_and_lines_are_once.Goals as goal

pub returns : goal.returns
returns c = numbers_once

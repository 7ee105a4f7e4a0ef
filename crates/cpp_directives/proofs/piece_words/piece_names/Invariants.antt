-- What is found and what is left make the whole.
use Rattle.std.proofs.Common.{◌≡◌, ◌++◌, length}
use Rattle.cpp_directives.specs.PieceNames.{names_of_piece}
use Rattle.cpp_directives.proofs.piece_words.piece_names.Given as goal

abbrev pub invariant-loop-word : goal.invariant-loop-word
invariant-loop-word l = l.found.items ++ names_of_piece l.rest ≡ names_of_piece l.text

abbrev pub decreases-loop-word : goal.decreases-loop-word
decreases-loop-word l = length l.rest

-- What the functions on turns promise each other: the turns that are kept by name.
use Rattle.std.specs.Prelude.{◌≡◌, ℕ, List, [], unwrap_or}
use Rattle.std.specs.List.{sum_by}
use Rattle.indexmap.specs.IndexMap.{get}
use Rattle.ut_text.specs.Bytes.{Bytes}
use Rattle.ut_text.specs.Text.{text_eq}
use Rattle.cpp_blocks.specs.declared.turns.Turns.{Turns}
use Rattle.cpp_directives.specs.PieceNames.{names_of_piece}
use Rattle.cpp_blocks.specs.Mentions.{firsts}
use Rattle.cpp_blocks.specs.Turns.{turn_of}

-- the turn that is kept for a name
abbrev pub turn_in : Turns → Bytes → ℕ
turn_in turns name = unwrap_or (get text_eq turns.counts name) 0

-- the turns kept are those after these macro lines
abbrev pub IsCounted : Turns → List Bytes → Type 0
IsCounted turns touched = (name : Bytes) → turn_in turns name ≡ turn_of touched name

-- the sum of the turns of a piece's names
abbrev pub piece_turn : Turns → Bytes → ℕ
piece_turn turns text = sum_by (turn_in turns) (firsts text_eq [] (names_of_piece text))

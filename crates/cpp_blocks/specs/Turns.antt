-- Turns: how many macro lines of a name stand before a place of a source. A piece has the number of
-- earlier macro lines that touch a name in it. This project's rule.
use Rattle.std.specs.Prelude.{ℕ, List, [], ◌∷◌, ◌++◌, length, filter}
use Rattle.std.specs.List.{flat_map}
use Rattle.ut_text.specs.Bytes.{Bytes}
use Rattle.ut_text.specs.Text.{text_eq}
use Rattle.cpp_directives.specs.declared.condition.Cond.{Cond}
use Rattle.cpp_directives.specs.declared.condition.Cond.TheOpen.{Cond-F}
use Rattle.cpp_directives.specs.declared.condition.Cond.TheFolds.{fold-Cond}
use Rattle.cpp_directives.specs.declared.directive.Directive.{Directive}
use Rattle.cpp_directives.specs.declared.directive.What.{What}
use Rattle.cpp_directives.specs.declared.directive.What.TheVariants.{If, Elif, Else, Endif, Define, Undef}
use Rattle.cpp_blocks.specs.declared.pieces.PieceOf.{PieceOf}
use Rattle.cpp_blocks.specs.PieceIdentity.{piece_eq}
use Rattle.cpp_blocks.specs.Mentions.{firsts}
use Rattle.cpp_blocks.specs.Run.{touches}

-- the name of a macro line
abbrev pub touched_at : What → List Bytes
touched_at (Define name gives) = name ∷ []
touched_at (Undef name) = name ∷ []
touched_at (If cond) = []
touched_at (Elif cond) = []
touched_at Else = []
touched_at Endif = []

-- the names of the macro lines among directives, in order
abbrev pub touched_in : List Directive → List Bytes
touched_in ds = flat_map (λ d. touched_at d.what) ds

-- how many of these macro lines are of the name
abbrev pub turn_of : List Bytes → Bytes → ℕ
turn_of touched name = length (filter (λ line. text_eq line name) touched)

-- the pieces of one layer of a condition, with those of each inner one in its place
abbrev pub pieces_step : (Bytes → ℕ) → Cond-F (List PieceOf) → List PieceOf
pieces_step turn (Cond-F.Const b) = []
pieces_step turn (Cond-F.Defined name) = []
pieces_step turn (Cond-F.Plain name) = []
pieces_step turn (Cond-F.Piece text) = record { text = text; turn = turn text } ∷ []
pieces_step turn (Cond-F.Neg pieces) = pieces
pieces_step turn (Cond-F.AllOf lists) = flat_map (λ pieces. pieces) lists
pieces_step turn (Cond-F.AnyOf lists) = flat_map (λ pieces. pieces) lists

-- the pieces of a condition, in order, where this is the number of each text
abbrev pub pieces_in : (Bytes → ℕ) → Cond → List PieceOf
pieces_in turn = fold-Cond (List PieceOf) (pieces_step turn)

-- the pieces of a directive
abbrev pub pieces_at : (Bytes → ℕ) → What → List PieceOf
pieces_at turn (If cond) = pieces_in turn cond
pieces_at turn (Elif cond) = pieces_in turn cond
pieces_at turn Else = []
pieces_at turn Endif = []
pieces_at turn (Define name gives) = []
pieces_at turn (Undef name) = []

-- the pieces of directives after these macro lines
abbrev pub pieces_from : List Bytes → List Directive → List PieceOf
pieces_from touched [] = []
pieces_from touched (d ∷ ds) = pieces_at (touches touched) d.what ++ pieces_from (touched ++ touched_at d.what) ds

-- the pieces of a source, each once, in order of first appearance
abbrev pub pieces_of : List Directive → List PieceOf
pieces_of ds = firsts piece_eq [] (pieces_from [] ds)

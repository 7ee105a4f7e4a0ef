-- The start of a run that is handed in as lists: macros and opaque pieces in the order in which the source numbers
-- them, and the lines that give a true macro. This project's own form.
use Rattle.std.specs.Prelude.{false, nat_eq, List, get_or}
use Rattle.std.specs.List.{list_any, position_or_len}
use Rattle.ut_text.specs.Text.{text_eq}
use Rattle.cpp_directives.specs.declared.directive.Directive.{Directive}
use Rattle.cpp_blocks.specs.declared.running.RunStart.{RunStart}
use Rattle.cpp_blocks.specs.declared.state.MacroState.TheVariants.{Undefined}
use Rattle.cpp_blocks.specs.Mentions.{names_of}
use Rattle.cpp_blocks.specs.PieceIdentity.{piece_eq}
use Rattle.cpp_blocks.specs.Run.{Start}
use Rattle.cpp_blocks.specs.Turns.{pieces_of}

-- the start that these lists stand for
abbrev pub start_with : List Directive → RunStart → Start
start_with ds s = record {
  built = s.built;
  macros = λ name. get_or s.macros.items (position_or_len (text_eq name) (names_of ds)) Undefined;
  piece = λ text turn. get_or s.pieces.items (position_or_len (piece_eq (record { text = text; turn = turn })) (pieces_of ds)) false;
  line = λ line. list_any (nat_eq line) s.lines.keys;
}

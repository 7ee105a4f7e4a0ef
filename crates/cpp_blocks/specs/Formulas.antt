-- The formulas of conditions: `defined X` is whether X is defined, and a name whether it is defined and
-- true, after the macro lines of that name so far; an opaque piece is an item of its own.
-- Rule: ISO C, "Conditional inclusion"; the items are this project's rule.
use Rattle.std.specs.Prelude.{ℕ, List, if◌then◌else◌, map}
use Rattle.std.specs.List.{position_or_len}
use Rattle.ut_text.specs.Bytes.{Bytes}
use Rattle.ut_text.specs.Text.{text_eq}
use Rattle.ut_logic.specs.declared.item.Item.{Item}
use Rattle.ut_logic.specs.declared.item.Item.TheVariants as item
use Rattle.ut_logic.specs.declared.node.Node.{Node}
use Rattle.ut_logic.specs.declared.node.Node.TheVariants as node
use Rattle.ut_logic.specs.declared.formula.Formula.{Formula}
use Rattle.ut_logic.specs.declared.formula.Formula.TheVariants.{Yes, No, Is}
use Rattle.ut_logic.specs.Fold.{not_of, all_of, any_of}
use Rattle.cpp_directives.specs.declared.condition.Cond.{Cond}
use Rattle.cpp_directives.specs.declared.condition.Cond.TheOpen.{Cond-F}
use Rattle.cpp_directives.specs.declared.condition.Cond.TheFolds.{fold-Cond}
use Rattle.cpp_directives.specs.declared.directive.Directive.{Directive}
use Rattle.cpp_blocks.specs.declared.pieces.PieceOf.{PieceOf}
use Rattle.cpp_blocks.specs.PieceIdentity.{piece_eq}
use Rattle.cpp_blocks.specs.Mentions.{names_of, names_in}
use Rattle.cpp_blocks.specs.Turns.{turn_of, pieces_of}
use Rattle.cpp_blocks.specs.Run.{touches}

-- by what the items of a source are numbered: the number of its file, its macro names and its pieces
pub record Source : Type 0 where
  pub file : ℕ
  pub names : List Bytes
  pub pieces : List PieceOf

-- the source of these directives
abbrev pub source_of : ℕ → List Directive → Source
source_of file ds = record { file = file; names = names_of ds; pieces = pieces_of ds }

-- the number of a macro name
abbrev pub name_in : Source → Bytes → ℕ
name_in src name = position_or_len (text_eq name) src.names

-- the number of a piece with this text and this number of earlier macro lines that touch it
abbrev pub piece_in : Source → Bytes → ℕ → ℕ
piece_in src text turn = position_or_len (piece_eq (record { text = text; turn = turn })) src.pieces

-- how many macro lines of each name, and how many that touch each piece, stand before a place
pub record Turn : Type 0 where
  pub name : Bytes → ℕ
  pub piece : Bytes → ℕ

-- after these macro lines
abbrev pub turns_after : List Bytes → Turn
turns_after touched = record { name = turn_of touched; piece = touches touched }

-- a macro is defined, or defined and true, after so many of its lines; and the node of that state
abbrev pub defined_item : Source → Bytes → ℕ → Item
defined_item src name turn = item.StateD src.file (name_in src name) turn

abbrev pub true_item : Source → Bytes → ℕ → Item
true_item src name turn = item.StateT src.file (name_in src name) turn

abbrev pub state_node : Source → Bytes → ℕ → Node
state_node src name turn = node.State src.file (name_in src name) turn

-- one layer of a condition, with the formula of each inner one in its place
abbrev pub formula_step : Source → Turn → Cond-F Formula → Formula
formula_step src turn (Cond-F.Const b) = if b then Yes else No
formula_step src turn (Cond-F.Defined name) = Is (defined_item src name (turn.name name))
formula_step src turn (Cond-F.Plain name) = Is (true_item src name (turn.name name))
formula_step src turn (Cond-F.Piece text) = Is (item.Piece src.file (piece_in src text (turn.piece text)))
formula_step src turn (Cond-F.Neg f) = not_of f
formula_step src turn (Cond-F.AllOf fs) = all_of fs
formula_step src turn (Cond-F.AnyOf fs) = any_of fs

-- the formula of a condition there
abbrev pub formula_of : Source → Turn → Cond → Formula
formula_of src turn = fold-Cond Formula (formula_step src turn)

-- the states that a condition refers to
abbrev pub states_in : Source → Turn → Cond → List Node
states_in src turn cond = map (λ name. state_node src name (turn.name name)) (names_in cond)

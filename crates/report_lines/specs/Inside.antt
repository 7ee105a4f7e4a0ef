-- Parts of a group as they are written one after another. No public contract cites this module.
use Rattle.std.specs.Prelude.{ℕ, ◌==◌, Bool, false, List, [], ◌∷◌, ◌++◌, suc, if◌then◌else◌, Option, None, Some, codes, decimal, slice_get}
use Rattle.std.specs.List.{dedup, flat_map}
use Rattle.ut_text.specs.Bytes.{Bytes}
use Rattle.ut_logic.specs.Assign.{is_in}
use Rattle.ut_logic.specs.Item.{item_eq}
use Rattle.ut_logic.specs.declared.item.Item.{Item}
use Rattle.ut_logic.specs.declared.item.Item.TheVariants as item
use Rattle.cpp_blocks.specs.declared.pieces.PieceOf.{PieceOf}
use Rattle.cpp_blocks.specs.Mentions.{names_of}
use Rattle.cpp_blocks.specs.Turns.{pieces_of}
use Rattle.ut_case.specs.Cases.{Case}
use Rattle.ut_case.specs.Problem.{Problem, directives_at}
use Rattle.ut_report.specs.Groups.{Kind, define_lines, each_from, in_file, kind_lines, piece_lines, start_lines, truth_lines}
use Rattle.ut_report.specs.Lines.{text_of}

-- ---- values

-- a symbol of this value
abbrev pub value_text : ℕ → Bytes → Bytes
value_text v name = if v == 0 then [] else codes " CONFIG_" ++ name ++ (if v == 1 then codes "=m" else codes "=y")

-- a name of this truth
abbrev pub name_text : Bool → Bytes → Bytes
name_text b name = if (if b then 2 else 0) == 2 then codes " " ++ name ++ codes "=y" else []

-- a choice of this mode
abbrev pub mode_lines : ℕ → ℕ → List Bytes
mode_lines m i = if m == 0 then [] else (decimal (suc i) ++ (if m == 1 then codes " m" else codes " y")) ∷ []

-- ---- further lines

-- those of a kind, as text
abbrev pub kind_text : Bool → Bytes → List Bytes → Bytes
kind_text on tag lines = text_of (kind_lines on (record { tag = tag; lines = lines }))

-- the kinds of what stands outside a configuration
abbrev pub environment_kinds : Problem → Case → List Kind
environment_kinds p x = record { tag = codes "start"; lines = each_from (start_lines x) 0 p.sources }
    ∷ record { tag = codes "truth"; lines = each_from (truth_lines x) 0 p.sources }
    ∷ record { tag = codes "piece"; lines = each_from (piece_lines x) 0 p.sources }
    ∷ record { tag = codes "line"; lines = each_from (define_lines x) 0 p.sources }
    ∷ []

-- what is given, as a line
abbrev pub given : {A : Type 0} → (A → Bytes) → Option A → List Bytes
given f None = []
given f (Some x) = f x ∷ []

-- a start of a macro, where this says whether it is true
abbrev pub start_text : Bool → ℕ → Bytes → Bytes
start_text b file macro = in_file file (macro ++ (if b then codes " true" else codes " false"))

-- a piece
abbrev pub piece_text : ℕ → PieceOf → Bytes
piece_text file piece = in_file file (decimal piece.turn ++ codes " " ++ piece.text)

-- the line of a true item, if it has one
abbrev pub item_text : Problem → (Item → Bool) → Bool → Item → Bytes
item_text p env on (item.StartD file n) = kind_text on (codes "start") (given (start_text (env (item.StartT file n)) file) (slice_get (names_of (directives_at p file)) n))
item_text p env on (item.Truth file n) = kind_text on (codes "truth") (given (in_file file) (slice_get (names_of (directives_at p file)) n))
item_text p env on (item.Piece file k) = kind_text on (codes "piece") (given (piece_text file) (slice_get (pieces_of (directives_at p file)) k))
item_text p env on (item.Line file line) = kind_text on (codes "line") (in_file file (decimal line) ∷ [])
item_text p env on (item.SymY k) = []
item_text p env on (item.SymM k) = []
item_text p env on (item.Undeclared k) = []
item_text p env on (item.ModeY i) = []
item_text p env on (item.ModeM i) = []
item_text p env on (item.Outer k) = []
item_text p env on (item.Same sym k) = []
item_text p env on (item.Below sym k) = []
item_text p env on (item.StartT file n) = []
item_text p env on (item.Block file block) = []
item_text p env on (item.StateD file n turn) = []
item_text p env on (item.StateT file n turn) = []

-- those of true items in order, each once
abbrev pub items_text : Problem → Bool → List Item → Bytes
items_text p on env = flat_map (item_text p (is_in env) on) (dedup item_eq env)

-- an item is the last one again
abbrev pub is_again : Option Item → Item → Bool
is_again None i = false
is_again (Some k) i = item_eq i k

-- the items after the last one, if there is one, without those equal to the one before them
abbrev pub after_last : Option Item → List Item → List Item
after_last last [] = []
after_last last (i ∷ is) = if is_again last i then after_last last is else i ∷ after_last (Some i) is

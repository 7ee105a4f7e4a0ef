-- The group of lines that shows a whole configuration and environment: a line with the values that aren't n, then further
-- lines kind by kind. This project's rule.
use Rattle.std.specs.Prelude.{ℕ, ◌==◌, Bool, List, [], ◌∷◌, ◌++◌, suc, if◌then◌else◌, codes, decimal}
use Rattle.std.specs.List.{flat_map}
use Rattle.ut_text.specs.Bytes.{Bytes}
use Rattle.ut_logic.specs.declared.item.Item.TheVariants as item
use Rattle.cpp_blocks.specs.Alike.{free_lines}
use Rattle.cpp_blocks.specs.declared.pieces.PieceOf.{PieceOf}
use Rattle.cpp_blocks.specs.Mentions.{names_of}
use Rattle.cpp_blocks.specs.Turns.{pieces_of}
use Rattle.kconf_tree.specs.declared.shape.Choice.{Choice}
use Rattle.kconf_tree.specs.declared.shape.Symbol.{Symbol}
use Rattle.kconf_tree.specs.Value.{Configuration}
use Rattle.ut_case.specs.Cases.{Case}
use Rattle.ut_case.specs.Numbering.{outers_of}
use Rattle.ut_case.specs.Problem.{Basis, OfTree, OfRules, Source, Problem, directives_of}

-- what each element gives, with its number from this one on
abbrev pub each_from : {A B : Type 0} → (ℕ → A → List B) → ℕ → List A → List B
each_from f n [] = []
each_from f n (x ∷ xs) = f n x ++ each_from f (suc n) xs

-- what this is, where it is so
abbrev pub where_so : {A : Type 0} → Bool → A → List A
where_so b x = if b then x ∷ [] else []

-- ---- the first line

-- the value of a symbol
abbrev pub symbol_value : Configuration → ℕ → Symbol → Bytes
symbol_value c k s = if c.value k == 0 then [] else codes " CONFIG_" ++ s.name ++ (if c.value k == 1 then codes "=m" else codes "=y")

-- a name of a model text that is true
abbrev pub name_value : Configuration → ℕ → Bytes → Bytes
name_value c k name = if c.value k == 2 then codes " " ++ name ++ codes "=y" else []

-- all that isn't n
abbrev pub values_text : Basis → Configuration → Bytes
values_text (OfTree t) c = each_from (symbol_value c) 0 t.symbols
values_text (OfRules r) c = each_from (name_value c) 0 r.names

-- ---- further lines, each without what stands up to its colon and blank

-- a choice whose mode isn't n; choices count from 1
abbrev pub choice_line : Configuration → ℕ → Choice → List Bytes
choice_line c i choice = if c.mode i == 0 then [] else (decimal (suc i) ++ (if c.mode i == 1 then codes " m" else codes " y")) ∷ []

-- all choices
abbrev pub choice_lines : Basis → Configuration → List Bytes
choice_lines (OfTree t) c = each_from (choice_line c) 0 t.choices
choice_lines (OfRules r) c = []

-- an outer condition that is true
abbrev pub outer_line : Configuration → ℕ → Bytes → List Bytes
outer_line c k text = where_so (c.outer k) text

-- of the source with this number, counted from 1
abbrev pub in_file : ℕ → Bytes → Bytes
in_file file rest = decimal (suc file) ++ codes " " ++ rest

-- a macro that starts defined, outside the configuration
abbrev pub start_line : Case → ℕ → ℕ → Bytes → List Bytes
start_line x file n macro = where_so (x.environment (item.StartD file n))
    (in_file file (macro ++ (if x.environment (item.StartT file n) then codes " true" else codes " false")))

-- the macro of a written symbol that is true
abbrev pub truth_line : Case → ℕ → ℕ → Bytes → List Bytes
truth_line x file n macro = where_so (x.environment (item.Truth file n)) (in_file file macro)

-- an opaque piece that is true, with its number of earlier macro lines
abbrev pub piece_line : Case → ℕ → ℕ → PieceOf → List Bytes
piece_line x file k piece = where_so (x.environment (item.Piece file k)) (in_file file (decimal piece.turn ++ codes " " ++ piece.text))

-- a free `#define` line that is true
abbrev pub define_line : Case → ℕ → ℕ → List Bytes
define_line x file line = where_so (x.environment (item.Line file line)) (in_file file (decimal line))

-- those of a source's macros, pieces and lines
abbrev pub start_lines : Case → ℕ → Source → List Bytes
start_lines x file s = each_from (start_line x file) 0 (names_of (directives_of s))

abbrev pub truth_lines : Case → ℕ → Source → List Bytes
truth_lines x file s = each_from (truth_line x file) 0 (names_of (directives_of s))

abbrev pub piece_lines : Case → ℕ → Source → List Bytes
piece_lines x file s = each_from (piece_line x file) 0 (pieces_of (directives_of s))

abbrev pub define_lines : Case → ℕ → Source → List Bytes
define_lines x file s = flat_map (define_line x file) (free_lines (directives_of s))

-- ---- the group

-- a kind of further lines: its tag, and what a case has of it
pub record Kind : Type 0 where
  pub tag : Bytes
  pub lines : List Bytes

-- the kinds, in their order
abbrev pub kinds_of : Problem → Case → List Kind
kinds_of p x = record { tag = codes "choice"; lines = choice_lines p.basis x.configuration }
    ∷ record { tag = codes "outer"; lines = each_from (outer_line x.configuration) 0 (outers_of p) }
    ∷ record { tag = codes "start"; lines = each_from (start_lines x) 0 p.sources }
    ∷ record { tag = codes "truth"; lines = each_from (truth_lines x) 0 p.sources }
    ∷ record { tag = codes "piece"; lines = each_from (piece_lines x) 0 p.sources }
    ∷ record { tag = codes "line"; lines = each_from (define_lines x) 0 p.sources }
    ∷ []

-- the word of a group: of the case that selects a block, or of the one that drops it
abbrev pub group_word : Bool → Bytes
group_word on = if on then codes " on" else codes " off"

-- the lines of a kind
abbrev pub kind_lines : Bool → Kind → List Bytes
kind_lines on kind = flat_map (λ line. (group_word on ++ codes "-" ++ kind.tag ++ codes ": " ++ line) ∷ []) kind.lines

-- the group of a case
abbrev pub group_lines : Problem → Bool → Case → List Bytes
group_lines p on x = (group_word on ++ codes ":" ++ values_text p.basis x.configuration) ∷ flat_map (kind_lines on) (kinds_of p x)

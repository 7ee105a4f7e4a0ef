-- Environments: which items of sources they may make true. This project's rule.
use Rattle.std.specs.Prelude.{◌≡◌, ℕ, ◌==◌, Bool, true, false, not, ◌&&◌, Option, None, Some, is_some, slice_get}
use Rattle.std.specs.List.{list_any}
use Rattle.ut_text.specs.Bytes.{Bytes}
use Rattle.ut_logic.specs.declared.item.Item.{Item}
use Rattle.ut_logic.specs.declared.item.Item.TheVariants as item
use Rattle.cpp_blocks.specs.Alike.{free_lines}
use Rattle.cpp_blocks.specs.Mentions.{names_of}
use Rattle.cpp_blocks.specs.Turns.{pieces_of}
use Rattle.kconf_tree.specs.Shape.{number_of}
use Rattle.kconf_tree.specs.Value.{Configuration}
use Rattle.ut_case.specs.declared.question.Family.{Family}
use Rattle.ut_case.specs.declared.question.Family.TheVariants as family
use Rattle.ut_case.specs.Cases.{Case}
use Rattle.ut_case.specs.Items.{macro_at}
use Rattle.ut_case.specs.Names.{config_name}
use Rattle.ut_case.specs.Problem.{Basis, OfTree, OfRules, Problem, directives_at}
use Rattle.ut_case.specs.Starts.{is_written_one}

-- ---- what a source has

-- the source has a macro with this number
abbrev pub has_macro : Problem → ℕ → ℕ → Bool
has_macro p file n = is_some (slice_get (names_of (directives_at p file)) n)

-- it has a piece with this number
abbrev pub has_piece : Problem → ℕ → ℕ → Bool
has_piece p file k = is_some (slice_get (pieces_of (directives_at p file)) k)

-- it has a free `#define` on this line
abbrev pub has_free_line : Problem → ℕ → ℕ → Bool
has_free_line p file line = list_any (λ (n : ℕ). n == line) (free_lines (directives_at p file))

-- ---- environments

-- a macro that starts free in a family
abbrev pub starts_free : Family → Bytes → Bool
starts_free family.Code macro = true
starts_free family.Kconfig macro = not (is_some (config_name macro))
starts_free family.Whole macro = not (is_some (config_name macro))

-- an item that an environment may make true: a start of a free macro, the truth of another one, a piece, a free line
abbrev pub is_of_sources : Problem → Family → Item → Bool
is_of_sources p f (item.StartD file n) = has_macro p file n && starts_free f (macro_at p file n)
is_of_sources p f (item.StartT file n) = has_macro p file n && starts_free f (macro_at p file n)
is_of_sources p f (item.Truth file n) = has_macro p file n && not (starts_free f (macro_at p file n))
is_of_sources p f (item.Piece file k) = has_piece p file k
is_of_sources p f (item.Line file line) = has_free_line p file line
is_of_sources p f (item.SymY k) = false
is_of_sources p f (item.SymM k) = false
is_of_sources p f (item.Undeclared k) = false
is_of_sources p f (item.ModeY i) = false
is_of_sources p f (item.ModeM i) = false
is_of_sources p f (item.Outer k) = false
is_of_sources p f (item.Same sym k) = false
is_of_sources p f (item.Below sym k) = false
is_of_sources p f (item.Block file block) = false
is_of_sources p f (item.StateD file n turn) = false
is_of_sources p f (item.StateT file n turn) = false

-- the string, hex or int symbol N of a macro `CONFIG_N` is written
abbrev pub is_written_by : Basis → Configuration → Option Bytes → Bool
is_written_by (OfTree t) c None = false
is_written_by (OfTree t) c (Some name) = is_written_one t c (number_of t name)
is_written_by (OfRules r) c name = false

-- of the sources' items alone some are true; no start is true without being defined; and a truth is that of a written symbol
pub record IsEnvironment (p : Problem) (f : Family) (x : Case) : Type 0 where
  pub known : (i : Item) → x.environment i ≡ true → is_of_sources p f i ≡ true
  pub defined : (file n : ℕ) → x.environment (item.StartT file n) ≡ true → x.environment (item.StartD file n) ≡ true
  pub written : (file n : ℕ) → x.environment (item.Truth file n) ≡ true
      → is_written_by p.basis x.configuration (config_name (macro_at p file n)) ≡ true

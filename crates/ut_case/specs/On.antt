-- When a block is on in a case: its source is built, and the run of its directives takes it. Block 0 is the source itself.
-- Rule: ISO C, "Conditional inclusion".
use Rattle.std.specs.Prelude.{ℕ, Bool, position}
use Rattle.ut_text.specs.Text.{text_eq}
use Rattle.ut_logic.specs.declared.item.Item.TheVariants as item
use Rattle.cpp_blocks.specs.Blocks.{parent_of}
use Rattle.cpp_blocks.specs.Formulas.{source_of, piece_in}
use Rattle.cpp_blocks.specs.Mentions.{names_of}
use Rattle.cpp_blocks.specs.Run.{Start, is_on_in}
use Rattle.ut_case.specs.declared.question.Family.{Family}
use Rattle.ut_case.specs.declared.question.BlockId.{BlockId}
use Rattle.ut_case.specs.Built.{is_built}
use Rattle.ut_case.specs.Cases.{Case}
use Rattle.ut_case.specs.Numbering.{Shared, shared}
use Rattle.ut_case.specs.Problem.{Source, Problem, source_at, directives_of, directives_at}
use Rattle.ut_case.specs.Starts.{numbered_start}

-- what the run of a source with this number finds
abbrev pub start_in : Shared → Family → Case → ℕ → Source → Start
start_in s f x file source = record {
  built = is_built s f x.configuration source.paths;
  macros = λ macro. numbered_start s.basis f x file macro (position (text_eq macro) (names_of (directives_of source)));
  piece = λ text turn. x.environment (item.Piece file (piece_in (source_of file (directives_of source)) text turn));
  line = λ line. x.environment (item.Line file line);
}

-- whether a block of a source is on
abbrev pub is_on_at : Shared → Family → Case → ℕ → Source → ℕ → Bool
is_on_at s f x file source block = is_on_in (start_in s f x file source) (directives_of source) block

-- whether a block of a problem is on
abbrev pub is_on : Problem → Family → Case → BlockId → Bool
is_on p f x b = is_on_at (shared p) f x b.file (source_at p b.file) b.block

-- the parent of a block
abbrev pub parent_in : Problem → BlockId → BlockId
parent_in p b = record { file = b.file; block = parent_of (directives_at p b.file) b.block }

-- The truth that a case gives each item. This project's rule.
use Rattle.std.specs.Prelude.{ℕ, ◌==◌, Bool, false, [], get_or, slice_index_or}
use Rattle.ut_text.specs.Bytes.{Bytes}
use Rattle.ut_logic.specs.declared.item.Item.{Item}
use Rattle.ut_logic.specs.declared.item.Item.TheVariants as item
use Rattle.cpp_blocks.specs.declared.state.MacroState.{MacroState}
use Rattle.cpp_blocks.specs.declared.state.MacroState.TheVariants.{Undefined}
use Rattle.cpp_blocks.specs.Mentions.{names_of}
use Rattle.cpp_blocks.specs.Run.{is_defined, is_true}
use Rattle.cpp_blocks.specs.Solution.{states_of}
use Rattle.ut_case.specs.declared.question.Family.{Family}
use Rattle.ut_case.specs.Cases.{Case}
use Rattle.ut_case.specs.Numbering.{shared}
use Rattle.ut_case.specs.On.{start_in, is_on_at}
use Rattle.ut_case.specs.Problem.{Problem, source_at, directives_at}
use Rattle.ut_case.specs.Starts.{free_start}

-- the macro with a number in a source
abbrev pub macro_at : Problem → ℕ → ℕ → Bytes
macro_at p file n = get_or (names_of (directives_at p file)) n []

-- its state after so many of its lines
abbrev pub state_at : Problem → Family → Case → ℕ → ℕ → ℕ → MacroState
state_at p f x file n turn = get_or (states_of (start_in (shared p) f x file (source_at p file)) (directives_at p file) (macro_at p file n)) turn Undefined

-- by the kind of the item; a macro that starts free is true only where it is defined
abbrev pub item_truth : Problem → Family → Case → Item → Bool
item_truth p f x (item.SymY k) = x.configuration.value k == 2
item_truth p f x (item.SymM k) = x.configuration.value k == 1
item_truth p f x (item.Undeclared k) = x.configuration.undeclared (slice_index_or p.undeclared k [])
item_truth p f x (item.ModeY i) = x.configuration.mode i == 2
item_truth p f x (item.ModeM i) = x.configuration.mode i == 1
item_truth p f x (item.Outer k) = x.configuration.outer k
item_truth p f x (item.Same sym k) = false
item_truth p f x (item.Below sym k) = false
item_truth p f x (item.StartD file n) = is_defined (free_start x file n)
item_truth p f x (item.StartT file n) = is_true (free_start x file n)
item_truth p f x (item.Truth file n) = x.environment (item.Truth file n)
item_truth p f x (item.Piece file k) = x.environment (item.Piece file k)
item_truth p f x (item.Line file line) = x.environment (item.Line file line)
item_truth p f x (item.Block file block) = is_on_at (shared p) f x file (source_at p file) block
item_truth p f x (item.StateD file n turn) = is_defined (state_at p f x file n turn)
item_truth p f x (item.StateT file n turn) = is_true (state_at p f x file n turn)

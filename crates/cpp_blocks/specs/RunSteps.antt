-- What the functions of a run promise each other.
-- This project's own; no contract of a public call rests on it.
use Rattle.std.specs.Prelude.{◌≡◌, Bool, false, [], map}
use Rattle.ut_text.specs.Bytes.{Bytes}
use Rattle.cpp_directives.specs.declared.condition.Cond.{Cond}
use Rattle.cpp_blocks.specs.declared.run_blocks.RunChain.{RunChain}
use Rattle.cpp_blocks.specs.declared.running.RunPlace.{RunPlace}
use Rattle.cpp_blocks.specs.declared.running.RunSoFar.{RunSoFar}
use Rattle.cpp_blocks.specs.declared.run_states.RunStates.{RunStates}
use Rattle.cpp_blocks.specs.declared.state.MacroState.{MacroState}
use Rattle.cpp_blocks.specs.declared.state.MacroState.TheVariants.{Undefined}
use Rattle.cpp_blocks.specs.Counted.{piece_turn}
use Rattle.cpp_blocks.specs.Run.{Start, OpenChain, Running, holds}
use Rattle.cpp_blocks.specs.RunGiven.{state_in}
use Rattle.cpp_blocks.specs.RunStage.{Stage}
use Rattle.cpp_blocks.specs.StartWith.{start_with}

-- a chain as a run has it
abbrev pub open_chain : RunChain → OpenChain
open_chain c = record { around = c.around; taken = c.taken }

-- a run without its macros, as it is kept and as it is
abbrev pub kept : Stage → Running
kept s = record { on = s.on; chains = map open_chain s.chains; macros = λ name. Undefined; touched = []; blocks = s.blocks }

abbrev pub plain : Running → Running
plain r = record { on = r.on; chains = r.chains; macros = λ name. Undefined; touched = []; blocks = r.blocks }

-- the start of a place
abbrev pub start_at : RunPlace → Start
start_at place = start_with place.blocks.now place.start.now

-- the state of a macro there
abbrev pub state_at : RunPlace → RunStates → Bytes → MacroState
state_at place states name = state_in ((start_at place).macros name) states name

-- the truth of a piece there
abbrev pub piece_at : RunPlace → Bytes → Bool
piece_at place text = (start_at place).piece text (piece_turn place.turns.now text)

-- a run where macros and pieces are these
abbrev pub start_by : (Bytes → MacroState) → (Bytes → Bool) → Start
start_by macros pieces = record { built = false; macros = macros; piece = λ text turn. pieces text; line = λ line. false }

abbrev pub running_by : (Bytes → MacroState) → Running
running_by macros = record { on = false; chains = []; macros = macros; touched = []; blocks = [] }

-- whether a condition holds in it
abbrev pub holds_by : (Bytes → MacroState) → (Bytes → Bool) → Cond → Bool
holds_by macros pieces = holds (start_by macros pieces) (running_by macros)

-- whether it holds there
abbrev pub holds_at : RunPlace → RunStates → Cond → Bool
holds_at place states = holds_by (state_at place states) (piece_at place)

-- a run from this start stands there
pub record StandsAs (start : Start) (s : RunSoFar) (r : Running) : Type 0 where
  pub blocks : kept s.blocks ≡ plain r
  pub states : (name : Bytes) → state_in (start.macros name) s.states name ≡ r.macros name

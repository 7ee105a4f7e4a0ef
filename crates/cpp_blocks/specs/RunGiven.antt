-- The states that macro lines of a run gave, by name.
-- This project's own; no contract of a public call rests on it.
use Rattle.std.specs.Prelude.{unwrap_or}
use Rattle.indexmap.specs.IndexMap.{get}
use Rattle.ut_text.specs.Bytes.{Bytes}
use Rattle.ut_text.specs.Text.{text_eq}
use Rattle.cpp_blocks.specs.declared.run_states.RunStates.{RunStates}
use Rattle.cpp_blocks.specs.declared.state.MacroState.{MacroState}

-- the state of a name, which had this one first
abbrev pub state_in : MacroState → RunStates → Bytes → MacroState
state_in first states name = unwrap_or (get text_eq states.given name) first

-- The run of a source as the one solution of its facts: where the items that are free are chosen, exactly one
-- choice of the source's blocks and states meets the facts, and it is that of the run. This project's rule.
use Rattle.std.specs.Prelude.{◌≡◌, ◌↔◌, ℕ, ◌==◌, ◌<◌, ◌≤◌, Bool, true, false, Option, None, Some, List, [], ◌∷◌, ◌++◌, if◌then◌else◌, map, filter, length, get_or, slice_get}
use Rattle.std.specs.List.{list_any}
use Rattle.ut_text.specs.Bytes.{Bytes}
use Rattle.ut_logic.specs.declared.item.Item.{Item}
use Rattle.ut_logic.specs.declared.item.Item.TheVariants as item
use Rattle.ut_logic.specs.declared.facts.Fact.{Fact}
use Rattle.ut_logic.specs.Facts.{MeetsAll}
use Rattle.ut_text.specs.Text.{text_eq}
use Rattle.ut_logic.specs.Truth.{truth}
use Rattle.cpp_directives.specs.declared.directive.Directive.{Directive}
use Rattle.cpp_blocks.specs.declared.starts.StartOf.{StartOf}
use Rattle.cpp_blocks.specs.declared.starts.BuiltOf.{BuiltOf}
use Rattle.cpp_blocks.specs.declared.state.MacroState.{MacroState}
use Rattle.cpp_blocks.specs.declared.state.MacroState.TheVariants.{Undefined, DefinedFalse, DefinedTrue}
use Rattle.cpp_blocks.specs.Blocks.{count_of}
use Rattle.cpp_blocks.specs.Formulas.{Source, name_in, piece_in, defined_item, true_item}
use Rattle.cpp_blocks.specs.Run.{Start, Running, beginning, step, is_defined, is_true, is_on_in}
use Rattle.cpp_blocks.specs.Turns.{touched_at}

-- ---- the start that free items choose

-- a macro that is defined or not, and if so true or not
abbrev pub state_of : Bool → Bool → MacroState
state_of d t = if d then (if t then DefinedTrue else DefinedFalse) else Undefined

-- the state of a macro with this start
abbrev pub start_state : (Item → Bool) → Option StartOf → MacroState
start_state v None = Undefined
start_state v (Some start) = state_of (truth v start.d) (truth v start.t)

-- the start of a run where v gives the truths of the free items
abbrev pub start_of : Source → List StartOf → BuiltOf → (Item → Bool) → Start
start_of src starts built v = record {
  built = truth v built.formula;
  macros = λ name. start_state v (slice_get starts (name_in src name));
  piece = λ text turn. v (item.Piece src.file (piece_in src text turn));
  line = λ line. v (item.Line src.file line);
}

-- ---- the states of a macro

-- the states of a macro after each of its lines, where the run goes on from there
abbrev pub states_after : Start → Running → Bytes → List Directive → List MacroState
states_after start r name [] = []
states_after start r name (d ∷ ds) = map (λ line. (step start r d).macros name) (filter (λ line. text_eq line name) (touched_at d.what)) ++ states_after start (step start r d) name ds

-- the states of a macro in the run: at the start, and after each of its lines
abbrev pub states_of : Start → List Directive → Bytes → List MacroState
states_of start ds name = start.macros name ∷ states_after start (beginning start) name ds

-- ---- the solution

-- each block and each state has the truth that the run gives it
pub record IsRun (src : Source) (ds : List Directive) (start : Start) (v : Item → Bool) : Type 0 where
  pub blocks : (block : ℕ) → block ≤ count_of ds → v (item.Block src.file block) ≡ is_on_in start ds block
  pub defined : (name : Bytes) → list_any (text_eq name) src.names ≡ true → (turn : ℕ) → turn < length (states_of start ds name)
      → v (defined_item src name turn) ≡ is_defined (get_or (states_of start ds name) turn Undefined)
  pub truths : (name : Bytes) → list_any (text_eq name) src.names ≡ true → (turn : ℕ) → turn < length (states_of start ds name)
      → v (true_item src name turn) ≡ is_true (get_or (states_of start ds name) turn Undefined)

-- whether an item is one of the blocks and states of the file
abbrev pub is_own : ℕ → Item → Bool
is_own file (item.Block f block) = f == file
is_own file (item.StateD f name turn) = f == file
is_own file (item.StateT f name turn) = f == file
is_own file _ = false

-- no macro is true at the start without being defined
abbrev pub AreStates : (Item → Bool) → List StartOf → Type 0
AreStates v [] = Unit {0}
AreStates v (start ∷ starts) = (truth v start.t ≡ true → truth v start.d ≡ true) × AreStates v starts

-- where the free items are chosen so that no macro is true at the start without being defined, the facts have exactly one
-- solution: they are met just where each block and each state has the truth that the run gives it
pub record IsTheRun (src : Source) (ds : List Directive) (starts : List StartOf) (built : BuiltOf) (facts : List Fact) : Type 0 where
  pub exact : (v : Item → Bool) → MeetsAll v facts ↔ (AreStates v starts × IsRun src ds (start_of src starts built v) v)
  pub some : (v : Item → Bool) → AreStates v starts → (u : Item → Bool) × ((i : Item) → is_own src.file i ≡ false → u i ≡ v i) × MeetsAll u facts

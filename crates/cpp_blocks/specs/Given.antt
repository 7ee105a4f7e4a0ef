-- What the facts of a source list and mention beside the items of their own nodes and of its run: what is handed in with the
-- source's condition and with the starts of its macros, and the source's own opaque pieces and free `#define` lines.
-- This project's rule.
use Rattle.std.specs.Prelude.{◌≡◌, ◌⊎◌, ℕ, ◌<◌, true, List, ◌++◌, Some, All, Contains, length, slice_get}
use Rattle.ut_logic.specs.declared.item.Item.{Item}
use Rattle.ut_logic.specs.declared.item.Item.TheVariants as item
use Rattle.ut_logic.specs.declared.facts.Definition.{Definition}
use Rattle.ut_logic.specs.declared.facts.Fact.{Fact}
use Rattle.ut_logic.specs.Assign.{is_in}
use Rattle.ut_logic.specs.Owners.{owner}
use Rattle.ut_logic.specs.Truth.{mentioned}
use Rattle.cpp_directives.specs.declared.directive.Directive.{Directive}
use Rattle.cpp_blocks.specs.declared.starts.StartOf.{StartOf}
use Rattle.cpp_blocks.specs.declared.starts.BuiltOf.{BuiltOf}
use Rattle.cpp_blocks.specs.Alike.{free_lines}
use Rattle.cpp_blocks.specs.Facts.{file_fact, is_of_run, start_fact}
use Rattle.cpp_blocks.specs.Nodes.{mentioned_by}
use Rattle.cpp_blocks.specs.Turns.{pieces_of}

-- ---- what is listed

-- an item of the source's condition, in the fact of the file
pub record IsOfBuilt (file : ℕ) (built : BuiltOf) (f : Fact) (i : Item) : Type 0 where
  pub fact : f ≡ file_fact file built
  pub listed : is_in built.items i ≡ true

-- an item of a macro's start, in the fact of that start
pub record IsOfStart (file : ℕ) (starts : List StartOf) (f : Fact) (i : Item) : Type 0 where
  pub name : ℕ
  pub start : StartOf
  pub at : slice_get starts name ≡ Some start
  pub fact : f ≡ start_fact file name start
  pub listed : is_in start.items i ≡ true

-- an opaque piece of the source, or one of its free lines
abbrev pub IsFreeOf : ℕ → List Directive → Item → Type 0
IsFreeOf file ds (item.Piece f k) = (f ≡ file) × (k < length (pieces_of ds))
IsFreeOf file ds (item.Line f line) = (f ≡ file) × Contains (free_lines ds) line
IsFreeOf file ds _ = ⊥

-- each item that a fact lists is one of its own node, or one of these
abbrev pub ListsGiven : ℕ → List Directive → List StartOf → BuiltOf → Fact → Type 0
ListsGiven file ds starts built f = (i : Item) → is_in f.items i ≡ true → (owner i ≡ Some f.node) ⊎ (IsOfBuilt file built f i ⊎ (IsOfStart file starts f i ⊎ IsFreeOf file ds i))

-- ---- what is mentioned

-- an item that the source's condition mentions, in the fact of the file
pub record IsSaidByBuilt (file : ℕ) (built : BuiltOf) (f : Fact) (i : Item) : Type 0 where
  pub fact : f ≡ file_fact file built
  pub said : is_in (mentioned built.formula) i ≡ true

-- an item that a macro's start mentions, in the fact of that start
pub record IsSaidByStart (file : ℕ) (starts : List StartOf) (f : Fact) (i : Item) : Type 0 where
  pub name : ℕ
  pub start : StartOf
  pub at : slice_get starts name ≡ Some start
  pub fact : f ≡ start_fact file name start
  pub said : is_in (mentioned start.d ++ mentioned start.t) i ≡ true

-- each item that a fact mentions is one of the run, or one of these
abbrev pub MentionsGiven : ℕ → List StartOf → BuiltOf → Fact → Type 0
MentionsGiven file starts built f = (i : Item) → is_in (mentioned_by f) i ≡ true → (is_of_run i ≡ true) ⊎ (IsSaidByBuilt file built f i ⊎ IsSaidByStart file starts f i)

-- each item that a fact defines is one of its own node
abbrev pub DefinesOwn : Fact → Type 0
DefinesOwn f = All (λ (d : Definition). owner d.item ≡ Some f.node) f.defines

-- The facts of a source: first those of its blocks, from the file on, then those of its macros, each at the
-- start and after each of its lines. This project's rule.
use Rattle.std.specs.Prelude.{◌≡◌, ℕ, suc, ◌==◌, ◌&&◌, Bool, true, false, List, [], ◌∷◌, ◌++◌, filter, if◌then◌else◌, not}
use Rattle.std.specs.List.{list_all}
use Rattle.ut_logic.specs.declared.item.Item.{Item}
use Rattle.ut_logic.specs.declared.item.Item.TheVariants as item
use Rattle.ut_logic.specs.declared.node.Node.{Node}
use Rattle.ut_logic.specs.declared.node.Node.TheVariants as node
use Rattle.ut_logic.specs.declared.formula.Formula.{Formula, out-Formula}
use Rattle.ut_logic.specs.declared.formula.Formula.TheOpen.{Formula-F}
use Rattle.ut_logic.specs.declared.facts.Fact.{Fact}
use Rattle.ut_logic.specs.Fold.{not_of, any_of}
use Rattle.ut_logic.specs.Truth.{truth, mentioned}
use Rattle.cpp_directives.specs.declared.directive.Directive.{Directive}
use Rattle.cpp_blocks.specs.declared.starts.StartOf.{StartOf}
use Rattle.cpp_blocks.specs.declared.starts.BuiltOf.{BuiltOf}
use Rattle.cpp_blocks.specs.Formulas.{source_of}
use Rattle.cpp_blocks.specs.Steps.{Standing, facts_along}

-- the file itself
abbrev pub file_fact : ℕ → BuiltOf → Fact
file_fact file built = record {
  node = node.Block file 0;
  holds = [];
  defines = record { item = item.Block file 0; formula = built.formula } ∷ [];
  names = built.names;
  items = item.Block file 0 ∷ built.items;
}

-- whether an item is that of a free start
abbrev pub is_free_item : ℕ → ℕ → Item → Bool
is_free_item file name (item.StartD f n) = (f == file) && (n == name)
is_free_item file name _ = false

-- whether a formula is that item
abbrev pub is_free_at : ℕ → ℕ → Formula-F Formula → Bool
is_free_at file name (Formula-F.Is i) = is_free_item file name i
is_free_at file name _ = false

-- whether a name starts free
abbrev pub is_free : ℕ → ℕ → StartOf → Bool
is_free file name start = is_free_at file name (out-Formula start.d)

-- a macro that starts free is not true without being defined
abbrev pub start_holds : ℕ → ℕ → StartOf → List Formula
start_holds file name start = if is_free file name start then any_of (not_of start.t ∷ start.d ∷ []) ∷ [] else []

-- a macro at the start
abbrev pub start_fact : ℕ → ℕ → StartOf → Fact
start_fact file name start = record {
  node = node.State file name 0;
  holds = start_holds file name start;
  defines = record { item = item.StateD file name 0; formula = start.d } ∷ record { item = item.StateT file name 0; formula = start.t } ∷ [];
  names = start.names;
  items = item.StateD file name 0 ∷ item.StateT file name 0 ∷ start.items;
}

-- whether a node is a block
abbrev pub is_block : Node → Bool
is_block (node.Block file block) = true
is_block _ = false

-- whether a node is a state of the name with this number
abbrev pub is_state : ℕ → Node → Bool
is_state name (node.State file n turn) = n == name
is_state name _ = false

-- the facts of the names from this number on, where the lines have these facts
abbrev pub states_from : ℕ → List Fact → ℕ → List StartOf → List Fact
states_from file lines name [] = []
states_from file lines name (start ∷ starts) = (start_fact file name start ∷ filter (λ f. is_state name f.node) lines) ++ states_from file lines (suc name) starts

-- where the first directive of a source stands
abbrev pub at_first : Standing
at_first = record { next = 1; chains = [] }

-- the facts of a source
abbrev pub facts_of : ℕ → List Directive → List StartOf → BuiltOf → List Fact
facts_of file ds starts built = let lines = facts_along (source_of file ds) [] at_first ds in
    (file_fact file built ∷ filter (λ f. is_block f.node) lines) ++ states_from file lines 0 starts

-- ---- what is handed in

-- whether an item is one of the run: a piece, a line, a block or a state
abbrev pub is_of_run : Item → Bool
is_of_run (item.Piece file piece) = true
is_of_run (item.Line file line) = true
is_of_run (item.Block file block) = true
is_of_run (item.StateD file name turn) = true
is_of_run (item.StateT file name turn) = true
is_of_run _ = false

-- a formula mentions no such item
abbrev pub is_outside : Formula → Bool
is_outside f = list_all (λ i. not (is_of_run i)) (mentioned f)

-- where a name does not start free, whatever makes it true makes it defined
abbrev pub Implies : ℕ → ℕ → StartOf → Type 0
Implies file name start = is_free file name start ≡ false → (v : Item → Bool) → truth v start.t ≡ true → truth v start.d ≡ true

-- the starts of the names from this number on
abbrev pub AreStarts : ℕ → ℕ → List StartOf → Type 0
AreStarts file name [] = Unit {0}
AreStarts file name (start ∷ starts) = (is_outside start.d ≡ true) × (is_outside start.t ≡ true) × Implies file name start × AreStarts file (suc name) starts

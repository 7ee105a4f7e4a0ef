-- The nodes of a source's facts, each of which has one fact: its blocks, from the file on, and of each macro name its
-- states, at the start and after each of its lines. A fact names nodes of symbols, and nodes of its own source that
-- stand before it; each item that it mentions is its own source's choice or a start's, and then it lists it, or it
-- belongs to a node that it names. This project's rule.
use Rattle.std.specs.Prelude.{◌≡◌, ◌⊎◌, ℕ, zero, suc, ◌<◌, ◌≤◌, true, None, Some, List, [], ◌∷◌, ◌++◌, All, Contains, length, get_or, if◌then◌else◌}
use Rattle.std.specs.List.{list_any, flat_map}
use Rattle.ut_text.specs.Bytes.{Bytes}
use Rattle.ut_text.specs.Text.{text_eq}
use Rattle.ut_logic.specs.declared.item.Item.{Item}
use Rattle.ut_logic.specs.declared.item.Item.TheVariants as item
use Rattle.ut_logic.specs.declared.node.Node.{Node}
use Rattle.ut_logic.specs.declared.node.Node.TheVariants as node
use Rattle.ut_logic.specs.declared.facts.Definition.{Definition}
use Rattle.ut_logic.specs.declared.facts.Fact.{Fact}
use Rattle.ut_logic.specs.declared.formula.Formula.{Formula}
use Rattle.ut_logic.specs.Assign.{is_in}
use Rattle.ut_logic.specs.Node.{node_eq}
use Rattle.ut_logic.specs.Owners.{owner}
use Rattle.ut_logic.specs.Truth.{mentioned}
use Rattle.cpp_directives.specs.declared.directive.Directive.{Directive}
use Rattle.cpp_blocks.specs.declared.starts.StartOf.{StartOf}
use Rattle.cpp_blocks.specs.declared.starts.BuiltOf.{BuiltOf}
use Rattle.cpp_blocks.specs.Blocks.{count_of}
use Rattle.cpp_blocks.specs.Mentions.{names_of}
use Rattle.cpp_blocks.specs.Nesting.{opener_of}
use Rattle.cpp_blocks.specs.Turns.{touched_at, touched_in, turn_of}

-- ---- the nodes

-- so many blocks from this one on
abbrev pub block_nodes : ℕ → ℕ → ℕ → List Node
block_nodes file block zero = []
block_nodes file block (suc n) = node.Block file block ∷ block_nodes file (suc block) n

-- so many states of a name from this turn on
abbrev pub state_nodes : ℕ → ℕ → ℕ → ℕ → List Node
state_nodes file name turn zero = []
state_nodes file name turn (suc n) = node.State file name turn ∷ state_nodes file name (suc turn) n

-- the states of these names, the first of which has this number, where the macro lines have these names
abbrev pub name_nodes : ℕ → List Bytes → ℕ → List Bytes → List Node
name_nodes file touched k [] = []
name_nodes file touched k (name ∷ names) = state_nodes file k 0 (suc (turn_of touched name)) ++ name_nodes file touched (suc k) names

-- the nodes of a source
abbrev pub nodes_of : ℕ → List Directive → List Node
nodes_of file ds = block_nodes file 0 (suc (count_of ds)) ++ name_nodes file (touched_in ds) 0 (names_of ds)

-- ---- what a fact names

-- how many directives stand up to a macro line: the one of the name with this number, from 1; none for 0
abbrev pub turn_place : List Directive → Bytes → ℕ → ℕ
turn_place [] name turn = 0
turn_place (d ∷ ds) name zero = 0
turn_place (d ∷ ds) name (suc turn) = suc (turn_place ds name (if list_any (λ line. text_eq line name) (touched_at d.what) then turn else suc turn))

-- how many directives stand up to the one that gives a node: none for the file, the starts and symbols
abbrev pub rank_of : List Directive → Node → ℕ
rank_of ds (node.Sym sym) = 0
rank_of ds (node.Choice choice) = 0
rank_of ds (node.Block file zero) = 0
rank_of ds (node.Block file (suc block)) = suc (opener_of ds (suc block))
rank_of ds (node.State file name turn) = turn_place ds (get_or (names_of ds) name []) turn

-- a node that a fact with this rank may name: a symbol, or one of the source's that stands lower
abbrev pub IsBelow : ℕ → List Directive → ℕ → Node → Type 0
IsBelow file ds rank (node.Sym sym) = Unit {0}
IsBelow file ds rank (node.Choice choice) = Unit {0}
IsBelow file ds rank (node.Block f block) = (f ≡ file) × (block ≤ count_of ds) × (rank_of ds (node.Block f block) < rank)
IsBelow file ds rank (node.State f name turn) = (f ≡ file) × (name < length (names_of ds)) × (turn ≤ turn_of (touched_in ds) (get_or (names_of ds) name [])) × (rank_of ds (node.State f name turn) < rank)

-- each node that a fact names is one of these
abbrev pub IsOrderly : ℕ → List Directive → Fact → Type 0
IsOrderly file ds f = All (IsBelow file ds (rank_of ds f.node)) f.names

-- ---- what a fact mentions

-- an item that is listed, or that belongs to a node that is named
abbrev pub IsListedBy : List Node → List Item → Item → Type 0
IsListedBy names items i = ((owner i ≡ None) × (is_in items i ≡ true)) ⊎ ((n : Node) × (owner i ≡ Some n) × (list_any (node_eq n) names ≡ true))

-- the items that several formulas mention
abbrev pub mentioned_in : List Formula → List Item
mentioned_in fs = flat_map mentioned fs

-- the items that the formulas of a fact mention
abbrev pub mentioned_by : Fact → List Item
mentioned_by f = mentioned_in f.holds ++ flat_map (λ (d : Definition). mentioned d.formula) f.defines

-- a fact lists and defines its node's items, and lists all that it mentions
pub record IsListed (f : Fact) : Type 0 where
  pub own : (i : Item) → owner i ≡ Some f.node → is_in f.items i ≡ true
  pub defined : (i : Item) → owner i ≡ Some f.node → (d : Definition) × Contains f.defines d × (d.item ≡ i)
  pub mentions : (i : Item) → is_in (mentioned_by f) i ≡ true → IsListedBy f.names f.items i

-- where an item is a block or a state, it is one of this file
abbrev pub IsOfFile : ℕ → Item → Type 0
IsOfFile file (item.Block f block) = f ≡ file
IsOfFile file (item.StateD f name turn) = f ≡ file
IsOfFile file (item.StateT f name turn) = f ≡ file
IsOfFile file _ = Unit {0}

-- a fact mentions no block and no state of another file
abbrev pub MentionsOwn : ℕ → Fact → Type 0
MentionsOwn file f = (i : Item) → is_in (mentioned_by f) i ≡ true → IsOfFile file i

-- a fact lists items of its own node, and beside them such as no node has
abbrev pub ListsOwn : Fact → Type 0
ListsOwn f = (i : Item) → is_in f.items i ≡ true → (owner i ≡ None) ⊎ (owner i ≡ Some f.node)

-- ---- what is handed in

-- whether a node is a symbol or a choice
abbrev pub IsOfTree : Node → Type 0
IsOfTree (node.Sym sym) = Unit {0}
IsOfTree (node.Choice choice) = Unit {0}
IsOfTree (node.Block file block) = ⊥
IsOfTree (node.State file name turn) = ⊥

-- the nodes of a formula's symbols, and its other items, stand beside it
abbrev pub IsListedFormula : List Node → List Item → Formula → Type 0
IsListedFormula names items f = (i : Item) → is_in (mentioned f) i ≡ true → IsListedBy names items i

-- the same of both formulas of a start
pub record IsListedStart (s : StartOf) : Type 0 where
  pub nodes : All IsOfTree s.names
  pub d : IsListedFormula s.names s.items s.d
  pub t : IsListedFormula s.names s.items s.t

-- and of when a source is built
pub record IsListedBuilt (built : BuiltOf) : Type 0 where
  pub nodes : All IsOfTree built.names
  pub formula : IsListedFormula built.names built.items built.formula

-- items that no node has
abbrev pub AreLoose : List Item → Type 0
AreLoose items = (i : Item) → is_in items i ≡ true → owner i ≡ None

-- a symbol or a choice that a fact names is one that a start or the source's condition names
abbrev pub NamesGiven : List StartOf → BuiltOf → Fact → Type 0
NamesGiven starts built f = (n : Node) → Contains f.names n → IsOfTree n → Contains built.names n ⊎ ((s : StartOf) × Contains starts s × Contains s.names n)

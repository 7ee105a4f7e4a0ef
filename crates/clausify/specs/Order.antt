-- The order of a clause form: formulas that are held before all facts, symbols, choices, what the states of turn 0
-- hold, blocks, states, then the wish. What a node's fact holds comes before what it defines. This project's rule.
use Rattle.std.specs.Prelude.{◌≡◌, ℕ, Bool, true, false, not, ◌||◌, ◌==◌, length, List, [], ◌∷◌, ◌++◌, map, filter, if◌then◌else◌}
use Rattle.ut_logic.specs.declared.item.Item.{Item}
use Rattle.ut_logic.specs.declared.item.Item.TheVariants.{Outer}
use Rattle.ut_logic.specs.declared.node.Node.{Node}
use Rattle.ut_logic.specs.declared.node.Node.TheVariants.{Sym, Choice, Block, State}
use Rattle.ut_logic.specs.declared.formula.Formula.{Formula}
use Rattle.ut_logic.specs.declared.facts.Definition.{Definition}
use Rattle.ut_logic.specs.declared.facts.Fact.{Fact}
use Rattle.ut_logic.specs.declared.facts.Facts.{Facts}
use Rattle.model_slice.specs.declared.nodes.Slice.{Slice}
use Rattle.ut_logic.specs.Assign.{is_in}
use Rattle.ut_logic.specs.Node.{node_eq}
use Rattle.ut_logic.specs.Truth.{mentioned, together}
use Rattle.clausify.specs.declared.stage.Stage.{Stage}
use Rattle.clausify.specs.declared.stage.Stage.TheVariants.{Symbols, Starts, Blocks, States}
use Rattle.clausify.specs.Form.{Form}
use Rattle.clausify.specs.ClauseForm.{var_of, hold_each, defined_each}

-- whether what a node holds comes in a stage
abbrev pub holds_in : Stage → Node → Bool
holds_in Symbols (Sym a) = true
holds_in Symbols (Choice a) = true
holds_in Starts (State file name turn) = turn == 0
holds_in Blocks (Block file block) = true
holds_in States (State file name turn) = not (turn == 0)
holds_in _ _ = false

-- whether what a node defines comes in a stage
abbrev pub defines_in : Stage → Node → Bool
defines_in Symbols (Sym a) = true
defines_in Symbols (Choice a) = true
defines_in Blocks (Block file block) = true
defines_in States (State file name turn) = true
defines_in _ _ = false

-- what a fact holds in a stage
abbrev pub held_in : Stage → Fact → List Formula
held_in stage f = if holds_in stage f.node then f.holds else []

-- what a fact defines in a stage
abbrev pub defined_in : Stage → Fact → List Definition
defined_in stage f = if defines_in stage f.node then f.defines else []

-- the form with the clauses of a stage
abbrev pub staged : (Item → ℕ) → Stage → List Fact → Form → Form
staged at stage [] s = s
staged at stage (f ∷ fs) s = staged at stage fs (defined_each at (defined_in stage f) (hold_each at (held_in stage f) s))

-- all stages, and then the wish
abbrev pub form_of : (Item → ℕ) → List Fact → List Formula → Form → Form
form_of at facts wish s = hold_each at wish (staged at States facts (staged at Blocks facts (staged at Starts facts (staged at Symbols facts s))))

-- the clause form over these items, which have the first variables, before its clauses are put in order
abbrev pub form_over : List Item → List Fact → List Formula → Form
form_over items facts wish = form_of (var_of items) facts wish (record { vars = length items; clauses = [] })

-- the form before the wish, where these formulas are held before the facts
abbrev pub form_before : List Item → List Formula → List Fact → Form
form_before items held facts = staged (var_of items) States facts (staged (var_of items) Blocks facts (staged (var_of items) Starts facts
    (staged (var_of items) Symbols facts (hold_each (var_of items) held (record { vars = length items; clauses = [] })))))

-- and with the wish: with nothing held before the facts it is the clause form over the items
abbrev pub form_with : List Item → List Formula → List Fact → List Formula → Form
form_with items held facts wish = hold_each (var_of items) wish (form_before items held facts)

-- ---- facts and items of a slice

-- the fact of a node: the first, if there are several
abbrev pub fact_of : List Fact → Node → List Fact
fact_of [] n = []
fact_of (f ∷ fs) n = if node_eq f.node n then f ∷ [] else fact_of fs n

-- the facts of nodes, in their order
abbrev pub facts_of : List Fact → List Node → List Fact
facts_of facts [] = []
facts_of facts (n ∷ ns) = fact_of facts n ++ facts_of facts ns

-- the facts of a slice's nodes
abbrev pub slice_facts : Facts → Slice → List Fact
slice_facts facts slice = facts_of facts.list slice.nodes

-- the items that facts list
abbrev pub items_of : List Fact → List Item
items_of facts = together (map (λ f. f.items) facts)

-- the items that a fact mentions
abbrev pub mentioned_of : Fact → List Item
mentioned_of f = together (map mentioned f.holds) ++ together (map (λ d. d.item ∷ mentioned d.formula) f.defines)

-- the items that facts mention
abbrev pub mentioned_in : List Fact → List Item
mentioned_in facts = together (map mentioned_of facts)

-- whether the item is an outer condition
abbrev pub is_outer : Item → Bool
is_outer (Outer n) = true
is_outer _ = false

-- the outer conditions that formulas mention
abbrev pub outers_of : List Formula → List Item
outers_of fs = filter is_outer (together (map mentioned fs))

-- each item that the facts mention is listed in one of them
abbrev pub AreListed : List Fact → Type 0
AreListed facts = (i : Item) → is_in (mentioned_in facts) i ≡ true → is_in (items_of facts) i ≡ true

-- each item that the wish mentions is listed in one of the facts, or an outer condition
abbrev pub IsWishOver : List Fact → List Formula → Type 0
IsWishOver facts wish = (i : Item) → is_in (together (map mentioned wish)) i ≡ true → (is_in (items_of facts) i || is_outer i) ≡ true

-- each item that the formulas mention is one of these
abbrev pub AreOver : List Item → List Formula → Type 0
AreOver items fs = (i : Item) → is_in (together (map mentioned fs)) i ≡ true → is_in items i ≡ true

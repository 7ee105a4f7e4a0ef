-- What the formulas of a fact may mention: items that fit the tree, of its own node and of those that it names, and the loose
-- items that it lists. This project's rule.
use Rattle.std.specs.Prelude.{◌≡◌, ◌⊎◌, ℕ, ◌<◌, true, Some, None, All, Contains, length, map}
use Rattle.ut_logic.specs.declared.item.Item.{Item}
use Rattle.ut_logic.specs.declared.item.Item.TheVariants as item
use Rattle.ut_logic.specs.declared.node.Node.{Node}
use Rattle.ut_logic.specs.declared.node.Node.TheVariants.{Sym, Choice}
use Rattle.ut_logic.specs.declared.facts.Fact.{Fact}
use Rattle.ut_logic.specs.Assign.{is_in}
use Rattle.ut_logic.specs.Owners.{owner}
use Rattle.ut_logic.specs.Truth.{mentioned, together}
use Rattle.kconf_tree.specs.declared.shape.Counts.{Counts}
use Rattle.kconf_tree.specs.declared.shape.Counts.TheVariants as counts
use Rattle.kconf_tree.specs.Shape.{Shape, counts_as}
use Rattle.kconf_tree.specs.Valid.{choice_counts}
use Rattle.ut_logic.specs.declared.formula.Formula.{Formula}
use Rattle.kconf_entries.specs.declared.expr.Expr.{Expr}
use Rattle.kconf_tree.specs.declared.place.Place.TheVariants.{Condition}
use Rattle.kconf_tree.specs.References.{node_of, numbers_in, own_references}
use Rattle.kconf_tree.specs.WellMade.{IsNodeOf}
use Rattle.kconf_constr.specs.Scope.{Scope}

-- ---- items that fit

-- bool or tristate
abbrev pub IsTrit : Counts → Type 0
IsTrit counts.Bool = Unit {0}
IsTrit counts.Tristate = Unit {0}
IsTrit counts.Neither = ⊥

-- a symbol has a first item where it counts as bool or tristate, a symbol or a choice a second where it counts as
-- tristate; undeclared names and outer conditions are those of the lists
abbrev pub Fits : Scope → Item → Type 0
Fits s (item.SymY k) = IsTrit (counts_as s.shape k)
Fits s (item.SymM k) = counts_as s.shape k ≡ counts.Tristate
Fits s (item.Undeclared k) = k < length s.undeclared
Fits s (item.ModeY i) = Unit {0}
Fits s (item.ModeM i) = choice_counts s.shape i ≡ counts.Tristate
Fits s (item.Outer k) = k < length s.shape.outers
Fits s (item.Same sym k) = ⊥
Fits s (item.Below sym k) = ⊥
Fits s (item.StartD file name) = ⊥
Fits s (item.StartT file name) = ⊥
Fits s (item.Truth file name) = ⊥
Fits s (item.Piece file piece) = ⊥
Fits s (item.Line file line) = ⊥
Fits s (item.Block file block) = ⊥
Fits s (item.StateD file name turn) = ⊥
Fits s (item.StateT file name turn) = ⊥

-- ---- items that are reached

-- the fact is that of the node, or names it
abbrev pub Reaches : Fact → Node → Type 0
Reaches fact n = (fact.node ≡ n) ⊎ Contains fact.names n

-- an item of a symbol or a choice that is reached, where a member is reached by its choice too; or a listed one
abbrev pub IsReached : Shape → Fact → Item → Type 0
IsReached t fact (item.SymY k) = Reaches fact (Sym k) ⊎ Contains fact.names (node_of t k)
IsReached t fact (item.SymM k) = Reaches fact (Sym k) ⊎ Contains fact.names (node_of t k)
IsReached t fact (item.ModeY i) = fact.node ≡ Choice i
IsReached t fact (item.ModeM i) = fact.node ≡ Choice i
IsReached t fact i = is_in fact.items i ≡ true

-- each item that the fact's formulas mention fits and is reached
abbrev pub IsClosed : Scope → Fact → Type 0
IsClosed s fact = (i : Item) → is_in (together (map mentioned fact.holds)) i ≡ true → Fits s i × IsReached s.shape fact i

-- each node that a fact names is a node of the tree, so it has a fact
abbrev pub NamesNodes : Shape → Fact → Type 0
NamesNodes t fact = All (IsNodeOf t) fact.names

-- the outer conditions that a fact lists are those that its formulas mention
abbrev pub ListsOuters : Fact → Type 0
ListsOuters fact = (k : ℕ) → is_in fact.items (item.Outer k) ≡ is_in (together (map mentioned fact.holds)) (item.Outer k)

-- each item that a fact lists fits, and is one of its own node, or such as no node has
abbrev pub ListsFitting : Scope → Fact → Type 0
ListsFitting s fact = (i : Item) → is_in fact.items i ≡ true → Fits s i × ((owner i ≡ Some fact.node) ⊎ (owner i ≡ None))

-- ---- the formula of a condition

-- an item of a symbol that the condition asks for; of an undeclared name, or of an outer condition
abbrev pub IsAsked : Scope → Expr → Item → Type 0
IsAsked s e (item.SymY k) = Contains (numbers_in s.shape Condition e) k
IsAsked s e (item.SymM k) = Contains (numbers_in s.shape Condition e) k
IsAsked s e (item.Undeclared k) = Unit {0}
IsAsked s e (item.Outer k) = Unit {0}
IsAsked s e (item.ModeY i) = ⊥
IsAsked s e (item.ModeM i) = ⊥
IsAsked s e (item.Same sym k) = ⊥
IsAsked s e (item.Below sym k) = ⊥
IsAsked s e (item.StartD file name) = ⊥
IsAsked s e (item.StartT file name) = ⊥
IsAsked s e (item.Truth file name) = ⊥
IsAsked s e (item.Piece file piece) = ⊥
IsAsked s e (item.Line file line) = ⊥
IsAsked s e (item.Block file block) = ⊥
IsAsked s e (item.StateD file name turn) = ⊥
IsAsked s e (item.StateT file name turn) = ⊥

-- each item that the formula of a condition mentions fits and is asked for
abbrev pub Mentions : Scope → Expr → Formula → Type 0
Mentions s e f = (i : Item) → is_in (mentioned f) i ≡ true → Fits s i × IsAsked s e i

-- ---- the formula that a symbol is written

-- an item of a symbol that is one of the symbol's own references; of an undeclared name, or of an outer condition
abbrev pub IsOwn : Scope → ℕ → Item → Type 0
IsOwn s k (item.SymY j) = Contains (own_references s.shape k) j
IsOwn s k (item.SymM j) = Contains (own_references s.shape k) j
IsOwn s k (item.Undeclared n) = Unit {0}
IsOwn s k (item.Outer n) = Unit {0}
IsOwn s k (item.ModeY i) = ⊥
IsOwn s k (item.ModeM i) = ⊥
IsOwn s k (item.Same sym n) = ⊥
IsOwn s k (item.Below sym n) = ⊥
IsOwn s k (item.StartD file name) = ⊥
IsOwn s k (item.StartT file name) = ⊥
IsOwn s k (item.Truth file name) = ⊥
IsOwn s k (item.Piece file piece) = ⊥
IsOwn s k (item.Line file line) = ⊥
IsOwn s k (item.Block file block) = ⊥
IsOwn s k (item.StateD file name turn) = ⊥
IsOwn s k (item.StateT file name turn) = ⊥

-- it mentions items that fit, of the symbols that its prompts and defaults ask for
abbrev pub MentionsOwn : Scope → ℕ → Formula → Type 0
MentionsOwn s k f = (i : Item) → is_in (mentioned f) i ≡ true → Fits s i × IsOwn s k i

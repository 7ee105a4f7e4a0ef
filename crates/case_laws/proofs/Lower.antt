-- The laws of the crates below that the laws here rest on, as premises.
use Rattle.std.specs.Prelude.{◌≡◌, ℕ, Bool, true, List, All, length, map}
use Rattle.ut_logic.specs.declared.item.Item.{Item}
use Rattle.ut_logic.specs.declared.node.Node.{Node}
use Rattle.ut_logic.specs.declared.facts.Fact.{Fact}
use Rattle.ut_logic.specs.Facts.{MeetsAll}
use Rattle.cpp_directives.specs.declared.directive.Directive.{Directive}
use Rattle.cpp_directives.specs.WellFormed.{IsWellFormed}
use Rattle.cpp_blocks.specs.declared.starts.StartOf.{StartOf}
use Rattle.cpp_blocks.specs.declared.starts.BuiltOf.{BuiltOf}
use Rattle.cpp_blocks.specs.Facts as source
use Rattle.cpp_blocks.specs.Formulas.{source_of}
use Rattle.cpp_blocks.specs.Mentions.{names_of}
use Rattle.cpp_blocks.specs.Given.{DefinesOwn, ListsGiven, MentionsGiven}
use Rattle.cpp_blocks.specs.Nodes.{nodes_of, IsListed, IsListedBuilt, IsListedStart, IsOrderly, NamesGiven}
use Rattle.cpp_blocks.specs.Solution.{IsTheRun}
use Rattle.kconf_tree.specs.Looks.{AreSameIn}
use Rattle.kconf_tree.specs.Properties.{is_written}
use Rattle.kconf_tree.specs.Shape.{Shape}
use Rattle.kconf_tree.specs.Valid.{KeepsRules}
use Rattle.kconf_tree.specs.Value.{Configuration}
use Rattle.kconf_tree.specs.WellMade.{IsWellMade}
use Rattle.kconf_tree.specs.Parts.{part_of_nodes, IsClosedPart}
use Rattle.kconf_constr.specs.Closed as closed
use Rattle.kconf_constr.specs.FactsOf as tree
use Rattle.kconf_constr.specs.Meaning.{SaysWritten}
use Rattle.kconf_constr.specs.PropertyFormulas.{written_formula}
use Rattle.kconf_constr.specs.Scope.{Scope, IsRising}
use Rattle.kconf_constr.specs.Standing.{AreClosed, IsCovered, MeetsOn, SomeConfiguration}
use Rattle.kconf_constr.specs.Stands.{read_off, truths_of}

-- a configuration that keeps the rules is read off its own truths
abbrev pub TruthsAreReadBack : Type 0
TruthsAreReadBack = (s : Scope) → IsWellMade s.shape → (c : Configuration) → IsCovered s c → KeepsRules s.shape c → AreSameIn s.shape c (read_off s (truths_of s c))

-- its truths meet every fact
abbrev pub RulesMeetFacts : Type 0
RulesMeetFacts = (s : Scope) → IsWellMade s.shape → (c : Configuration) → IsCovered s c → KeepsRules s.shape c → MeetsAll (truths_of s c) (tree.facts_of s)

-- truths that meet the facts of a closed set of nodes are read off as a configuration that they stand for, and under which
-- each node is right
abbrev pub TruthsStand : Type 0
TruthsStand = (s : Scope) → IsWellMade s.shape → IsRising s.undeclared → (nodes : List Node) (v : Item → Bool) → AreClosed s nodes → MeetsOn s nodes v → SomeConfiguration s nodes v

-- a closed set of nodes is a closed part of the tree
abbrev pub NodesAreAPart : Type 0
NodesAreAPart = (s : Scope) → IsWellMade s.shape → (nodes : List Node) → AreClosed s nodes → IsClosedPart s.shape (part_of_nodes nodes)

-- what the facts of a tree mention fits and is reached; what they name are nodes of the tree
abbrev pub FactsAreClosed : Type 0
FactsAreClosed = (s : Scope) → IsWellMade s.shape → All (closed.IsClosed s) (tree.facts_of s)

abbrev pub FactsNameNodes : Type 0
FactsNameNodes = (s : Scope) → IsWellMade s.shape → All (closed.NamesNodes s.shape) (tree.facts_of s)

-- the formula of a written symbol says that it is, and mentions what fits
abbrev pub FormulasSayWritten : Type 0
FormulasSayWritten = (s : Scope) (k : ℕ) → SaysWritten s k (written_formula s k)

-- a symbol is written alike under configurations that are the same in all that a tree's rules look at
abbrev pub WrittenAlike : Type 0
WrittenAlike = (t : Shape) → IsWellMade t → (c d : Configuration) → AreSameIn t c d → (k : ℕ) → is_written t c k ≡ is_written t d k

-- the facts of a source have one solution, its run
abbrev pub FactsAreTheRun : Type 0
FactsAreTheRun = (file : ℕ) (ds : List Directive) (starts : List StartOf) (built : BuiltOf) → IsWellFormed ds → length starts ≡ length (names_of ds)
    → source.AreStarts file 0 starts → source.is_outside built.formula ≡ true → IsTheRun (source_of file ds) ds starts built (source.facts_of file ds starts built)

-- each block and each state of a source has its fact; facts name nodes that stand lower, and no other symbols than starts
-- and the source's condition do
abbrev pub SourcesAreKnown : Type 0
SourcesAreKnown = (file : ℕ) (ds : List Directive) (starts : List StartOf) (built : BuiltOf) → IsWellFormed ds → length starts ≡ length (names_of ds)
    → map (λ (fact : Fact). fact.node) (source.facts_of file ds starts built) ≡ nodes_of file ds

abbrev pub SourcesAreOrderly : Type 0
SourcesAreOrderly = (file : ℕ) (ds : List Directive) (starts : List StartOf) (built : BuiltOf) → IsWellFormed ds → All IsListedStart starts → IsListedBuilt built
    → All (IsOrderly file ds) (source.facts_of file ds starts built)

abbrev pub SourcesNameGiven : Type 0
SourcesNameGiven = (file : ℕ) (ds : List Directive) (starts : List StartOf) (built : BuiltOf) → All (NamesGiven starts built) (source.facts_of file ds starts built)

-- what a fact of a tree lists fits, and belongs to its own node or to none
abbrev pub FactsListFitting : Type 0
FactsListFitting = (s : Scope) → IsWellMade s.shape → All (closed.ListsFitting s) (tree.facts_of s)

-- what a fact of a source mentions is listed; what it lists and mentions beside its own is handed in, or the source's choice
abbrev pub SourcesAreListed : Type 0
SourcesAreListed = (file : ℕ) (ds : List Directive) (starts : List StartOf) (built : BuiltOf) → All IsListedStart starts → IsListedBuilt built → All IsListed (source.facts_of file ds starts built)

abbrev pub SourcesListGiven : Type 0
SourcesListGiven = (file : ℕ) (ds : List Directive) (starts : List StartOf) (built : BuiltOf) → All (ListsGiven file ds starts built) (source.facts_of file ds starts built)

abbrev pub SourcesMentionGiven : Type 0
SourcesMentionGiven = (file : ℕ) (ds : List Directive) (starts : List StartOf) (built : BuiltOf) → All (MentionsGiven file starts built) (source.facts_of file ds starts built)

-- it defines items of its own node alone
abbrev pub SourcesDefineOwn : Type 0
SourcesDefineOwn = (file : ℕ) (ds : List Directive) (starts : List StartOf) (built : BuiltOf) → All DefinesOwn (source.facts_of file ds starts built)

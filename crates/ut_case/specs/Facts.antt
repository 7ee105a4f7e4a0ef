-- The facts of a question: those of the Kconfig texts or the names of a model text, and those of the sources that its
-- wishes name. This project's rule.
use Rattle.std.specs.Prelude.{ℕ, nat_eq, List, [], ◌∷◌, ◌++◌, map, length}
use Rattle.std.specs.List.{flat_map, range_with_len}
use Rattle.ut_logic.specs.declared.item.Item.TheVariants as item
use Rattle.ut_logic.specs.declared.node.Node.{Node}
use Rattle.ut_logic.specs.declared.node.Node.TheVariants as node
use Rattle.ut_logic.specs.declared.formula.Formula.{Formula}
use Rattle.ut_logic.specs.declared.facts.Fact.{Fact}
use Rattle.kconf_constr.specs.FactsOf as tree
use Rattle.cpp_blocks.specs.Facts as source
use Rattle.cpp_blocks.specs.Mentions.{firsts, names_of}
use Rattle.ut_case.specs.declared.question.Family.{Family}
use Rattle.ut_case.specs.declared.question.Family.TheVariants as family
use Rattle.ut_case.specs.declared.wish.Wish.{Wish}
use Rattle.ut_case.specs.declared.wish.Wish.TheVariants as wish
use Rattle.ut_case.specs.BuiltFormulas.{built_of}
use Rattle.ut_case.specs.Numbering.{Shared, shared}
use Rattle.ut_case.specs.Problem.{Basis, OfTree, OfRules, Source, Problem, source_at, directives_of}
use Rattle.ut_case.specs.Questions.{Question}
use Rattle.ut_case.specs.StartFormulas.{scope_of, starts_from}

-- ---- the basis

-- the fact of a name of a model text says nothing by itself
abbrev pub name_fact : ℕ → Fact
name_fact k = record { node = node.Sym k; holds = []; defines = []; names = []; items = item.SymY k ∷ [] }

-- the places of a list
abbrev pub places : {A : Type 0} → List A → List ℕ
places xs = range_with_len 0 (length xs)

-- the facts of symbols and choices, or of names
abbrev pub basis_facts : Shared → Family → Basis → List Fact
basis_facts s f (OfTree t) = tree.facts_of (scope_of s f t)
basis_facts s f (OfRules r) = map name_fact (places r.names)

-- in family Code there are none
abbrev pub basis_facts_for : Shared → Family → List Fact
basis_facts_for s family.Code = []
basis_facts_for s family.Kconfig = basis_facts s family.Kconfig s.basis
basis_facts_for s family.Whole = basis_facts s family.Whole s.basis

-- the rules of a model text, which hold whatever is asked
abbrev pub basis_rules : Basis → List Formula
basis_rules (OfTree t) = []
basis_rules (OfRules r) = r.holds

-- in family Code none holds
abbrev pub rules_for : Family → Basis → List Formula
rules_for family.Code b = []
rules_for family.Kconfig b = basis_rules b
rules_for family.Whole b = basis_rules b

-- every name of a model text is needed
abbrev pub basis_nodes : Basis → List Node
basis_nodes (OfTree t) = []
basis_nodes (OfRules r) = map (λ k. node.Sym k) (places r.names)

-- but in family Code
abbrev pub nodes_for : Family → Basis → List Node
nodes_for family.Code b = []
nodes_for family.Kconfig b = basis_nodes b
nodes_for family.Whole b = basis_nodes b

-- ---- sources

-- the facts of a source with its number
abbrev pub source_facts : Shared → Family → ℕ → Source → List Fact
source_facts s f file src = source.facts_of file (directives_of src) (starts_from s f file 0 (names_of (directives_of src))) (built_of s f src.paths)

-- the source of a node, if it is of one
abbrev pub node_files : Node → List ℕ
node_files (node.Sym k) = []
node_files (node.Choice i) = []
node_files (node.Block file block) = file ∷ []
node_files (node.State file n turn) = file ∷ []

-- the sources that a wish names
abbrev pub wish_files : Wish → List ℕ
wish_files (wish.Block b) = b.file ∷ []
wish_files (wish.On name) = []
wish_files (wish.Off name) = []
wish_files (wish.Holds formula nodes) = flat_map node_files nodes

-- those of a question, each once
abbrev pub files_of : Question → List ℕ
files_of q = firsts nat_eq [] (flat_map wish_files q.wishes)

-- ---- all facts

-- the facts of a question
abbrev pub facts_for : Problem → Question → List Fact
facts_for p q = basis_facts_for (shared p) q.family ++ flat_map (λ file. source_facts (shared p) q.family file (source_at p file)) (files_of q)

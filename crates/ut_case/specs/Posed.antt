-- What holds of every problem that is asked, and which questions may be asked of it: the premises of the laws.
-- This project's rule.
use Rattle.std.specs.Prelude.{◌≡◌, ◌≢◌, ◌⊎◌, ℕ, ◌<◌, ◌≤◌, true, List, [], ◌∷◌, Some, Result, Ok, Err, length, All, Contains}
use Rattle.std.specs.List.{flat_map}
use Rattle.ut_text.specs.Text.{text_eq}
use Rattle.ut_logic.specs.Assign.{is_in}
use Rattle.ut_logic.specs.Owners.{owner}
use Rattle.ut_logic.specs.Truth.{mentioned}
use Rattle.ut_logic.specs.declared.item.Item.{Item}
use Rattle.ut_logic.specs.declared.item.Item.TheVariants as item
use Rattle.ut_logic.specs.declared.node.Node.{Node}
use Rattle.ut_logic.specs.declared.formula.Formula.{Formula}
use Rattle.ut_logic.specs.declared.facts.Rules.{Rules}
use Rattle.model_slice.specs.Named.{nodes_of}
use Rattle.clausify.specs.Order.{facts_of, items_of}
use Rattle.cpp_directives.specs.declared.directive.Directive.{Directive}
use Rattle.cpp_directives.specs.declared.bad.CppBad.{CppBad}
use Rattle.cpp_directives.specs.declared.bad.CppBad.TheVariants as bad
use Rattle.cpp_directives.specs.WellFormed.{IsWellFormed}
use Rattle.cpp_blocks.specs.Blocks.{count_of}
use Rattle.kconf_tree.specs.Apart.{AreApart, names_in}
use Rattle.kconf_tree.specs.Shape.{Shape}
use Rattle.kconf_tree.specs.WellMade.{IsOrderedTree}
use Rattle.ut_case.specs.declared.question.Family.TheVariants as family
use Rattle.ut_case.specs.declared.question.BlockId.{BlockId}
use Rattle.ut_case.specs.declared.wish.Wish.{Wish}
use Rattle.ut_case.specs.declared.wish.Wish.TheVariants as wish
use Rattle.ut_case.specs.Facts.{facts_for, node_files}
use Rattle.ut_case.specs.Numbering.{outers_of, IsNumbered}
use Rattle.ut_case.specs.Problem.{Basis, OfTree, OfRules, Source, Problem, source_at}
use Rattle.ut_case.specs.Questions.{Question}

-- ---- problems

-- a tree with some order, whose symbols have names of their own
pub record IsMadeTree (t : Shape) : Type 0 where
  pub order : List Node
  pub ordered : IsOrderedTree (record { shape = t; order = order })
  pub apart : AreApart text_eq (names_in t.symbols)

-- names of their own, and rules over them alone
pub record AreRules (r : Rules) : Type 0 where
  pub apart : AreApart text_eq r.names
  pub within : (f : Formula) (i : Item) → Contains r.holds f → is_in (mentioned f) i ≡ true → (k : ℕ) × (i ≡ item.SymY k) × (k < length r.names)

-- either
abbrev pub IsBasis : Basis → Type 0
IsBasis (OfTree t) = IsMadeTree t
IsBasis (OfRules r) = AreRules r

-- well-formed directives, or a fault of the text
abbrev pub IsRead : Result (List Directive) CppBad → Type 0
IsRead (Ok ds) = IsWellFormed ds
IsRead (Err e) = e ≢ bad.Oom

-- a problem that can be asked
pub record IsPosed (p : Problem) : Type 0 where
  pub made : IsBasis p.basis
  pub read : All (λ (s : Source). IsRead s.read) p.sources
  pub numbered : IsNumbered p

-- ---- questions

-- the number is that of a block, or 0
abbrev pub HasBlock : Result (List Directive) CppBad → ℕ → Type 0
HasBlock (Ok ds) block = block ≤ count_of ds
HasBlock (Err e) block = ⊥

-- a block of a source that is not refused
pub record IsBlockOf (p : Problem) (b : BlockId) : Type 0 where
  pub file : b.file < length p.sources
  pub block : HasBlock (source_at p b.file).read b.block

-- a block of its own, from 1 on; block 0 is the source
abbrev pub IsInnerBlockOf : Problem → BlockId → Type 0
IsInnerBlockOf p b = (0 < b.block) × IsBlockOf p b

-- an item of one of the nodes
pub record IsItemOf (p : Problem) (q : Question) (nodes : List Node) (i : Item) : Type 0 where
  pub node : Node
  pub owns : owner i ≡ Some node
  pub listed : Contains nodes node
  pub own : is_in (items_of (facts_of (facts_for p q) (node ∷ []))) i ≡ true

-- an outer condition of the problem
abbrev pub IsOuterOf : Problem → Item → Type 0
IsOuterOf p i = (k : ℕ) × (i ≡ item.Outer k) × (k < length (outers_of p))

-- a formula over outer conditions and the items of nodes that have facts, in sources of the problem
pub record IsFormulaOver (p : Problem) (q : Question) (nodes : List Node) (f : Formula) : Type 0 where
  pub sources : All (λ (file : ℕ). file < length p.sources) (flat_map node_files nodes)
  pub nodes_have_facts : All (Contains (nodes_of (facts_for p q))) nodes
  pub items : (i : Item) → is_in (mentioned f) i ≡ true → IsOuterOf p i ⊎ IsItemOf p q nodes i

-- a wish that may stand in a question; On and Off stand in those of family Whole alone, where an undeclared name is n
abbrev pub IsWishOf : Problem → Question → Wish → Type 0
IsWishOf p q (wish.Block b) = IsBlockOf p b
IsWishOf p q (wish.On name) = q.family ≡ family.Whole
IsWishOf p q (wish.Off name) = q.family ≡ family.Whole
IsWishOf p q (wish.Holds formula nodes) = IsFormulaOver p q nodes formula

-- a question that may be asked of a problem
pub record IsAskable (p : Problem) (q : Question) : Type 0 where
  pub posed : IsPosed p
  pub wished : All (IsWishOf p q) q.wishes

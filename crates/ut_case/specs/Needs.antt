-- What a question needs: the least closed set of nodes that has those of its wishes; its facts and its items.
-- This project's rule.
use Rattle.std.specs.Prelude.{◌≡◌, List, [], ◌∷◌, ◌++◌, map}
use Rattle.std.specs.List.{flat_map}
use Rattle.std.specs.List.Sorted.{IsStrictlySortedBy}
use Rattle.ut_logic.specs.Assign.{is_in}
use Rattle.ut_logic.specs.Node.{node_cmp}
use Rattle.ut_logic.specs.Variables.{AreInOrder}
use Rattle.ut_logic.specs.Fold.{not_of}
use Rattle.ut_logic.specs.declared.item.Item.{Item}
use Rattle.ut_logic.specs.declared.item.Item.TheVariants as item
use Rattle.ut_logic.specs.declared.node.Node.{Node}
use Rattle.ut_logic.specs.declared.node.Node.TheVariants as node
use Rattle.ut_logic.specs.declared.formula.Formula.{Formula}
use Rattle.ut_logic.specs.declared.formula.Formula.TheVariants.{Is}
use Rattle.ut_logic.specs.declared.facts.Fact.{Fact}
use Rattle.model_slice.specs.Closed.{IsLeastClosed}
use Rattle.model_slice.specs.Named.{names_of}
use Rattle.clausify.specs.Order.{facts_of, items_of, outers_of}
use Rattle.ut_case.specs.declared.question.Family.{Family}
use Rattle.ut_case.specs.declared.wish.Wish.{Wish}
use Rattle.ut_case.specs.declared.wish.Wish.TheVariants as wish
use Rattle.ut_case.specs.BuiltFormulas.{enabled_formula, enabled_nodes}
use Rattle.ut_case.specs.Facts.{facts_for, nodes_for}
use Rattle.ut_case.specs.Numbering.{shared}
use Rattle.ut_case.specs.Problem.{Problem}
use Rattle.ut_case.specs.Questions.{Question}

-- ---- wishes as formulas

-- the formula of a wish
abbrev pub formula_of : Problem → Family → Wish → Formula
formula_of p f (wish.Block b) = Is (item.Block b.file b.block)
formula_of p f (wish.On name) = enabled_formula (shared p) f p.basis name
formula_of p f (wish.Off name) = not_of (enabled_formula (shared p) f p.basis name)
formula_of p f (wish.Holds formula nodes) = formula

-- the nodes of a wish
abbrev pub roots_of : Problem → Wish → List Node
roots_of p (wish.Block b) = node.Block b.file b.block ∷ []
roots_of p (wish.On name) = enabled_nodes p.basis name
roots_of p (wish.Off name) = enabled_nodes p.basis name
roots_of p (wish.Holds formula nodes) = nodes

-- the formulas of a question, in the order of its wishes
abbrev pub wish_of : Problem → Question → List Formula
wish_of p q = map (formula_of p q.family) q.wishes

-- ---- needs

-- in order, the least closed set that has the nodes of the wishes, and over a model text all names
pub record AreNeeds (p : Problem) (q : Question) (nodes : List Node) : Type 0 where
  pub least : IsLeastClosed (names_of (facts_for p q)) (nodes_for q.family p.basis ++ flat_map (roots_of p) q.wishes) nodes
  pub sorted : IsStrictlySortedBy node_cmp nodes

-- the facts of these nodes
abbrev pub needed_facts : Problem → Question → List Node → List Fact
needed_facts p q nodes = facts_of (facts_for p q) nodes

-- in order, the items of these facts and the outer conditions of the wishes
pub record AreItems (p : Problem) (q : Question) (nodes : List Node) (items : List Item) : Type 0 where
  pub ordered : AreInOrder items
  pub exact : (i : Item) → is_in items i ≡ is_in (items_of (needed_facts p q nodes) ++ outers_of (wish_of p q)) i

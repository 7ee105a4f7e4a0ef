-- Which configurations truths of items stand for, on a set of nodes: those whose own truths they agree with there.
-- This project's rule.
use Rattle.std.specs.Prelude.{◌≡◌, ℕ, ◌<◌, Bool, true, List, [], All, Contains, length}
use Rattle.ut_text.specs.Bytes.{Bytes}
use Rattle.ut_logic.specs.declared.item.Item.{Item}
use Rattle.ut_logic.specs.declared.item.Item.TheVariants.{Undeclared, Outer}
use Rattle.ut_logic.specs.declared.node.Node.{Node}
use Rattle.ut_logic.specs.declared.node.Node.TheVariants.{Sym, Choice, Block, State}
use Rattle.ut_logic.specs.declared.facts.Fact.{Fact}
use Rattle.ut_logic.specs.Facts.{Meets}
use Rattle.kconf_tree.specs.Shape.{counts_as}
use Rattle.kconf_tree.specs.Value.{Configuration, HasValues}
use Rattle.kconf_tree.specs.Valid.{choice_counts}
use Rattle.kconf_tree.specs.Undeclared.{undeclared_of}
use Rattle.kconf_tree.specs.WellMade.{IsNodeOf}
use Rattle.kconf_tree.specs.Parts.{part_of_nodes, IsRightPart}
use Rattle.kconf_constr.specs.Scope.{Scope}
use Rattle.kconf_constr.specs.Stands.{truths_of, read_off}
use Rattle.kconf_constr.specs.FactsOf.{own_items, mode_items, facts_of}

-- the items of a node
abbrev pub items_of : Scope → Node → List Item
items_of s (Sym k) = own_items (counts_as s.shape k) k
items_of s (Choice i) = mode_items (choice_counts s.shape i) i
items_of s (Block file block) = []
items_of s (State file name turn) = []

-- the truths stand for the configuration on these nodes: they are its truths on the items of the nodes, on the undeclared
-- names and on the outer conditions
pub record StandsFor (s : Scope) (nodes : List Node) (v : Item → Bool) (c : Configuration) : Type 0 where
  pub items : (n : Node) → Contains nodes n → All (λ i. v i ≡ truths_of s c i) (items_of s n)
  pub undeclared : (k : ℕ) → k < length s.undeclared → v (Undeclared k) ≡ truths_of s c (Undeclared k)
  pub outers : (k : ℕ) → k < length s.shape.outers → v (Outer k) ≡ truths_of s c (Outer k)

-- the tree's undeclared names that a configuration reads as y are on the list
abbrev pub IsCovered : Scope → Configuration → Type 0
IsCovered s c = (name : Bytes) → Contains (undeclared_of s.shape) name → c.undeclared name ≡ true → Contains s.undeclared name

-- nodes of the tree, and with each all that its fact names
pub record AreClosed (s : Scope) (nodes : List Node) : Type 0 where
  pub within : All (IsNodeOf s.shape) nodes
  pub names : (fact : Fact) → Contains (facts_of s) fact → Contains nodes fact.node → All (Contains nodes) fact.names

-- the truths meet the facts of these nodes
abbrev pub MeetsOn : Scope → List Node → (Item → Bool) → Type 0
MeetsOn s nodes v = (fact : Fact) → Contains (facts_of s) fact → Contains nodes fact.node → Meets v fact

-- some configuration for which the truths stand on the nodes, and under which each of these is right: the one that is read
-- off them, so that every name off the list is n, and every outer condition has its item's truth
pub record SomeConfiguration (s : Scope) (nodes : List Node) (v : Item → Bool) : Type 0 where
  pub configuration : Configuration
  pub read : configuration ≡ read_off s v
  pub values : HasValues configuration
  pub stands : StandsFor s nodes v configuration
  pub right : IsRightPart s.shape configuration (part_of_nodes nodes)

-- Parts of a tree: which are closed under references, under which configurations they are right, and which configurations
-- agree on them. This project's rule.
use Rattle.std.specs.Prelude.{◌≡◌, ℕ, Bool, true, false, List, Some, All}
use Rattle.ut_text.specs.Bytes.{Bytes}
use Rattle.ut_logic.specs.declared.node.Node.{Node}
use Rattle.ut_logic.specs.declared.node.Node.TheVariants.{Sym, Choice}
use Rattle.ut_logic.specs.Node.{node_eq}
use Rattle.std.specs.List.{list_any}
use Rattle.kconf_tree.specs.Shape.{Shape, symbol_at, is_member}
use Rattle.kconf_tree.specs.Value.{Configuration}
use Rattle.kconf_tree.specs.Valid.{IsRightChoice}
use Rattle.kconf_tree.specs.References.{symbol_references, choice_references}
use Rattle.kconf_tree.specs.Right.{IsRight}

-- which symbols and choices belong to it
pub record Part : Type 0 where
  pub symbol : ℕ → Bool
  pub choice : ℕ → Bool

-- the part of these nodes
abbrev pub part_of_nodes : List Node → Part
part_of_nodes nodes = record { symbol = λ k. list_any (node_eq (Sym k)) nodes; choice = λ i. list_any (node_eq (Choice i)) nodes }

-- all symbols of the list belong to it
abbrev pub Holds : Part → List ℕ → Type 0
Holds p = All (λ k. p.symbol k ≡ true)

-- all that it refers to belongs to it, and a choice belongs to it exactly where its members do
pub record IsClosedPart (t : Shape) (p : Part) : Type 0 where
  pub symbols : (k : ℕ) → is_member t k ≡ false → p.symbol k ≡ true → Holds p (symbol_references t k)
  pub choices : (i : ℕ) → p.choice i ≡ true → Holds p (choice_references t i)
  pub together : (i j : ℕ) → (symbol_at t j).member_of ≡ Some i → p.symbol j ≡ p.choice i

-- each symbol of it that is no member is right, and each choice keeps its rules
pub record IsRightPart (t : Shape) (c : Configuration) (p : Part) : Type 0 where
  pub symbols : (k : ℕ) → is_member t k ≡ false → p.symbol k ≡ true → IsRight t c k
  pub choices : (i : ℕ) → p.choice i ≡ true → IsRightChoice t c i

-- two configurations agree on it: in its values and modes, in all outer conditions, and in how undeclared names are read
pub record AgreeOn (p : Part) (c d : Configuration) : Type 0 where
  pub values : (k : ℕ) → p.symbol k ≡ true → c.value k ≡ d.value k
  pub modes : (i : ℕ) → p.choice i ≡ true → c.mode i ≡ d.mode i
  pub outers : (k : ℕ) → c.outer k ≡ d.outer k
  pub undeclared : (name : Bytes) → c.undeclared name ≡ d.undeclared name

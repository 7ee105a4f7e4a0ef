-- What is true of every built tree: a choice has its members once, and exactly those symbols that are
-- members of it; the modules symbol is one of the symbols; and a symbol of texts or numbers counts as neither bool
-- nor tristate. This project's rule.
use Rattle.std.specs.Prelude.{◌≡◌, ◌<◌, ℕ, ◌==◌, Bool, true, List, Some, All, length}
use Rattle.std.specs.List.{list_any}
use Rattle.ut_logic.specs.declared.node.Node.{Node}
use Rattle.ut_logic.specs.declared.node.Node.TheVariants.{Sym, Choice}
use Rattle.kconf_tree.specs.declared.shape.Counts.TheVariants as counts
use Rattle.kconf_tree.specs.Shape.{Shape, symbol_at, choice_at, counts_as}
use Rattle.kconf_tree.specs.Value.{is_text_or_number}
use Rattle.kconf_tree.specs.Apart.{AreApart}
use Rattle.kconf_tree.specs.OrderedTree.{OrderedTree}
use Rattle.kconf_tree.specs.Orders.{IsOrder}

-- the number is one of the list
abbrev pub is_among : List ℕ → ℕ → Bool
is_among ks k = list_any (λ j. j == k) ks

-- members are listed once, each with its choice
pub record IsWellMade (t : Shape) : Type 0 where
  pub apart : (i : ℕ) → AreApart (λ j k. j == k) (choice_at t i).members
  pub of_choice : (i j : ℕ) → is_among (choice_at t i).members j ≡ true → (symbol_at t j).member_of ≡ Some i
  pub listed : (i j : ℕ) → (symbol_at t j).member_of ≡ Some i → is_among (choice_at t i).members j ≡ true
  pub modules : (k : ℕ) → t.modules ≡ Some k → k < length t.symbols
  pub texts : (k : ℕ) → is_text_or_number (symbol_at t k).kind ≡ true → counts_as t k ≡ counts.Neither

-- a symbol or choice of the tree
abbrev pub IsNodeOf : Shape → Node → Type 0
IsNodeOf t (Sym k) = k < length t.symbols
IsNodeOf t (Choice i) = i < length t.choices
IsNodeOf t n = ⊥

-- the tree is well made, and its order is one
pub record IsOrderedTree (t : OrderedTree) : Type 0 where
  pub made : IsWellMade t.shape
  pub ordered : IsOrder t.shape t.order
  pub within : All (IsNodeOf t.shape) t.order

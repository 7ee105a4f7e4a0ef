-- Orders of a tree's symbols and choices, in which each stands after all that it refers to, and the cycle
-- that a recursive tree is refused with. This project's rule.
use Rattle.std.specs.Prelude.{◌≡◌, ℕ, ◌==◌, List, [], ◌∷◌, ◌++◌, length, map, if◌then◌else◌, slice_index_or, suc}
use Rattle.std.specs.List.{flat_map, position_or_len, range_with_len}
use Rattle.ut_logic.specs.declared.node.Node.{Node}
use Rattle.ut_logic.specs.declared.node.Node.TheVariants.{Sym, Choice}
use Rattle.ut_logic.specs.Node.{node_eq}
use Rattle.kconf_tree.specs.declared.shape.Choice.{Choice as OneChoice}
use Rattle.kconf_tree.specs.Shape.{Shape, choice_at}
use Rattle.kconf_tree.specs.Gathered.{distinct}
use Rattle.kconf_tree.specs.References.{node_of, references_of}
use Rattle.kconf_tree.specs.declared.bad.TreeBad.{TreeBad}
use Rattle.kconf_tree.specs.declared.bad.TreeBad.TheVariants.{TooMany, Recursive, Oom}
use Rattle.node_order.specs.Graph.{HasOrder, IsOrder as IsGraphOrder, IsFirstCycle as IsFirstGraphCycle}

-- the nodes in order: that of each symbol, by the first symbol of a node. A choice without members is
-- left out, since no node refers to it.
abbrev pub nodes_of : Shape → List Node
nodes_of t = distinct node_eq (map (node_of t) (range_with_len 0 (length t.symbols)))

-- the order number of a node
abbrev pub place_of : Shape → Node → ℕ
place_of t n = position_or_len (node_eq n) (nodes_of t)

-- the node with an order number
abbrev pub node_at : Shape → ℕ → Node
node_at t k = slice_index_or (nodes_of t) k (Sym 0)

-- for each node, by their order numbers, the nodes that it refers to
abbrev pub graph_of : Shape → List (List ℕ)
graph_of t = map (λ n. map (place_of t) (references_of t n)) (nodes_of t)

-- a choice with its members beside it; a symbol alone
abbrev pub with_members : Shape → Node → List Node
with_members t (Choice i) = Choice i ∷ map (λ k. Sym k) (choice_at t i).members
with_members t n = n ∷ []

-- the choices without members, from this number on
abbrev pub empty_choices : ℕ → List OneChoice → List Node
empty_choices i [] = []
empty_choices i (c ∷ cs) = if length c.members == 0 then Choice i ∷ empty_choices (suc i) cs else empty_choices (suc i) cs

-- each node once, after all that it refers to, members beside their choice; choices without members last
pub record IsOrder (t : Shape) (order : List Node) : Type 0 where
  pub numbers : List ℕ
  pub orders : IsGraphOrder (graph_of t) numbers
  pub listed : order ≡ flat_map (λ k. with_members t (node_at t k)) numbers ++ empty_choices 0 t.choices

-- the tree has an order
abbrev pub IsAccepted : Shape → Type 0
IsAccepted t = HasOrder (graph_of t)

-- a cycle of nodes: that of the first node that lies on one, a shortest one, and of these the least
pub record IsFirstCycle (t : Shape) (cycle : List Node) : Type 0 where
  pub numbers : List ℕ
  pub first : IsFirstGraphCycle (graph_of t) numbers
  pub listed : cycle ≡ map (node_at t) numbers

-- a tree without an order, and its cycle; running out of memory says nothing
abbrev pub IsRecursive : Shape → TreeBad → Type 0
IsRecursive t (Recursive cycle) = (¬ IsAccepted t) × IsFirstCycle t cycle
IsRecursive t (TooMany what count) = ⊥
IsRecursive t Oom = Unit {0}

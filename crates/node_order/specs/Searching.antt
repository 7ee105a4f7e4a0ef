-- The search for an order: what its marks, its path and its order so far mean. No public contract cites this
-- module.
use Rattle.std.specs.Prelude.{◌≡◌, ◌≢◌, ◌⊎◌, ◌↔◌, ℕ, ◌+◌, ◌-◌, ◌<◌, List, [], ◌∷◌, length, take, reverse, slice_index_or, All, Contains}
use Rattle.node_order.specs.declared.search.Mark.{Mark}
use Rattle.node_order.specs.declared.search.Mark.TheVariants.{New, Open, Done}
use Rattle.node_order.specs.declared.search.Step.{Step}
use Rattle.node_order.specs.declared.search.Step.TheVariants.{Goes, Closes}
use Rattle.node_order.specs.declared.search.Visit.{Visit}
use Rattle.node_order.specs.declared.search.Search.{Search}
use Rattle.node_order.specs.Graph.{refers_of, Refers, IsInOrder}
use Rattle.node_order.specs.Walks.{HasCycle, IsOffCycles}

-- the node is on the path
abbrev pub IsOn : List Visit → ℕ → Type 0
IsOn [] a = ⊥
IsOn (v ∷ path) a = (v.node ≡ a) ⊎ IsOn path a

-- the top of the path, if there is one, refers to a
abbrev pub LeadsTo : List (List ℕ) → List Visit → ℕ → Type 0
LeadsTo g [] a = Unit {0}
LeadsTo g (v ∷ path) a = Refers g v.node a

-- each node of a path, from its top, is referred to by the one below it and stands on the path once, and the
-- references that it has followed are in the order
abbrev pub IsPath : List (List ℕ) → List ℕ → List Visit → Type 0
IsPath g order [] = Unit {0}
IsPath g order (v ∷ path) =
    LeadsTo g path v.node × ¬ IsOn path v.node × All (Contains order) (take v.next (refers_of g v.node)) × IsPath g order path

-- the open nodes are those on the path, the done ones those in the order
pub record IsSearch (g : List (List ℕ)) (marks : List Mark) (path : List Visit) (order : List ℕ) : Type 0 where
  pub count : length marks ≡ length g
  pub opened : (a : ℕ) → (slice_index_or marks a New ≡ Open) ↔ IsOn path a
  pub done : (a : ℕ) → (slice_index_or marks a New ≡ Done) ↔ Contains order a
  pub linked : IsPath g order path
  pub in_order : IsInOrder g order

-- the number of steps that a node takes that has not been reached
abbrev pub weight : Mark → List ℕ → ℕ
weight New nodes = length nodes + 2
weight Open nodes = 0
weight Done nodes = 0

abbrev pub new_work : List Mark → List (List ℕ) → ℕ
new_work [] g = 0
new_work (m ∷ marks) [] = 0
new_work (m ∷ marks) (nodes ∷ g) = weight m nodes + new_work marks g

-- the number of steps that the nodes on the path still take
abbrev pub path_work : List (List ℕ) → List Visit → ℕ
path_work g [] = 0
path_work g (v ∷ path) = (length (refers_of g v.node) - v.next) + 1 + path_work g path

-- the number of steps that are left
abbrev pub work : List (List ℕ) → List Mark → List Visit → ℕ
work g marks path = new_work marks g + path_work g path

abbrev pub path_of : Search → List Visit
path_of s = reverse s.path.items

abbrev pub IsSearching : List (List ℕ) → Search → Type 0
IsSearching g s = IsSearch g s.marks.items (path_of s) s.order.items

-- what is no longer new stays so
abbrev pub Keeps : List Mark → List Mark → Type 0
Keeps old new = (a : ℕ) → slice_index_or old a New ≢ New → slice_index_or new a New ≢ New

-- a step from where top is the top of the path
pub record Advances (g : List (List ℕ)) (top : Visit) (old new : Search) : Type 0 where
  pub search : IsSearching g new
  pub less : work g new.marks.items (path_of new) < work g old.marks.items (top ∷ path_of old)
  pub kept : Keeps old.marks.items new.marks.items

-- a visit of root, from and to an empty path
pub record Visits (g : List (List ℕ)) (root : ℕ) (old new : Search) : Type 0 where
  pub search : IsSearching g new
  pub empty : new.path.items ≡ []
  pub visited : Contains new.order.items root
  pub kept : (a : ℕ) → Contains old.order.items a → Contains new.order.items a

-- the done nodes lie on no cycle
abbrev pub AreOffCycles : List (List ℕ) → List Mark → Type 0
AreOffCycles g marks = (a : ℕ) → slice_index_or marks a New ≡ Done → IsOffCycles g a

-- the graph has a cycle, and no node that is done lies on one
pub record FindsCycle (g : List (List ℕ)) (s : Search) : Type 0 where
  pub count : length s.marks.items ≡ length g
  pub cycle : HasCycle g
  pub off : AreOffCycles g s.marks.items

-- the first fact where a step goes on, the second where it closes a cycle
abbrev pub MatchStep : Step → Type 0 → Type 0 → Type 0
MatchStep Goes P Q = P
MatchStep Closes P Q = Q

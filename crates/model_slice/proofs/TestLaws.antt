-- Lists of nodes as tests: a test has all of a list where the list holds them.
use Rattle.std.proofs.Common.{◌≡◌, Bool, true, List, All, Contains}
use Rattle.std.proofs.lemmas.List.Elements.{All-contains}
use Rattle.std.proofs.lemmas.Map.Views.{Contains-from_any, list_any-from_Contains, All-from_any}
use Rattle.ut_logic.specs.declared.node.Node.{Node}
use Rattle.ut_logic.specs.declared.facts.Fact.{Fact}
use Rattle.ut_logic.specs.NodeIdentity.{node_eq-Decides}
use Rattle.model_slice.specs.Closed.{IsClosed}
use Rattle.model_slice.specs.Named.{names_of}
use Rattle.model_slice.specs.Found.{has}
use Rattle.model_slice.proofs.AddedLaws.{laws}

-- the test passes at each of the nodes
abbrev pub HasAll : (Node → Bool) → List Node → Type 0
HasAll q nodes = (n : Node) → has nodes n ≡ true → q n ≡ true

-- where it passes at a node, it passes at what the node's fact names
abbrev pub IsClosedTest : List Fact → (Node → Bool) → Type 0
IsClosedTest facts q = (n m : Node) → q n ≡ true → has (names_of facts n) m ≡ true → q m ≡ true

pub has-contains : (xs : List Node) (n : Node) → has xs n ≡ true → Contains xs n
has-contains xs n h = Contains-from_any (λ x y. (node_eq-Decides x y).0) n xs h

pub contains-has : (xs : List Node) (n : Node) → Contains xs n → has xs n ≡ true
contains-has xs n c = list_any-from_Contains laws n xs c

pub all_have : (xs ys : List Node) → HasAll (has xs) ys → All (Contains xs) ys
all_have xs ys h = All-from_any laws (Contains xs) ys (λ n g. has-contains xs n (h n g))

pub have_all : (xs ys : List Node) → All (Contains xs) ys → HasAll (has xs) ys
have_all xs ys h n g = contains-has xs n (All-contains (Contains xs) ys n h (has-contains ys n g))

-- a closed list as a test
pub closed_test : (facts : List Fact) (nodes : List Node) → IsClosed (names_of facts) nodes → IsClosedTest facts (has nodes)
closed_test facts nodes c n m g i = have_all nodes (names_of facts n) (All-contains (λ x. All (Contains nodes) (names_of facts x)) nodes n c (has-contains nodes n g)) m i

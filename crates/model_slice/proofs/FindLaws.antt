-- What a node's fact names, by the fact.
use Rattle.std.proofs.Common.{◌≡◌, Bool, true, false, cond, List, [], ◌∷◌, Some, refl}
use Rattle.ut_logic.specs.declared.node.Node.{Node}
use Rattle.ut_logic.specs.declared.facts.Fact.{Fact}
use Rattle.ut_logic.specs.Node.{node_eq}
use Rattle.model_slice.specs.Named.{first_of, names_at, names_of}

pub names_first : (facts : List Fact) (n : Node) → names_at (first_of facts n) ≡ names_of facts n
names_first [] n = refl
names_first (f ∷ fs) n = by (node_eq f.node n) (names_first fs n)
  where
    by : (b : Bool) → names_at (first_of fs n) ≡ names_of fs n → names_at (cond b (Some f) (first_of fs n)) ≡ cond b f.names (names_of fs n)
    by true h = refl
    by false h = h

-- Lists of facts that agree at the nodes of a closed set have the same least closed sets over its roots.
use Rattle.std.proofs.Common.{◌≡◌, Bool, true, false, ◌&&◌, List, get_or, All, Contains, ◌↔◌, refl, sym, ap, subst, ◌∙◌}
use Rattle.std.proofs.lemmas.Bool.{false≢true}
use Rattle.std.proofs.lemmas.List.Elements.{All-weaker, All-contains, All-contains_itself}
use Rattle.std.proofs.lemmas.Map.Views.{All-from_any}
use Rattle.ut_logic.specs.declared.node.Node.{Node}
use Rattle.ut_logic.specs.declared.facts.Fact.{Fact}
use Rattle.model_slice.specs.Closed.{IsClosed, IsLeastClosed}
use Rattle.model_slice.specs.Named.{names_at, names_of, HaveSameFacts}
use Rattle.model_slice.specs.Found.{has}
use Rattle.model_slice.proofs.AddedLaws.{laws}
use Rattle.model_slice.proofs.TestLaws.{has-contains, contains-has}
use Rattle.model_slice.proofs.ClosedLaws.{least_test}
use Rattle.model_slice.proofs.FindLaws.{names_first}

both : (a b : Bool) → a ≡ true → b ≡ true → (a && b) ≡ true
both true b h g = g
both false b h g = h

first_true : (a b : Bool) → (a && b) ≡ true → a ≡ true
first_true true b h = refl
first_true false b h = h

second_true : (a b : Bool) → (a && b) ≡ true → b ≡ true
second_true true b h = h
second_true false b h = absurd (false≢true h)

pub names_same : (facts others : List Fact) (set : List Node) → HaveSameFacts facts others set → (n : Node) → Contains set n → names_of facts n ≡ names_of others n
names_same facts others set same n c = sym (names_first facts n) ∙ (ap names_at (same n c) ∙ names_first others n)

module _ (facts others : List Fact) (set roots nodes : List Node) (same : HaveSameFacts facts others set) (closed : IsClosed (names_of facts) set) (rooted : All (Contains set) roots) (l : IsLeastClosed (names_of facts) roots nodes) where
  inside : (n : Node) → Contains nodes n → Contains set n
  inside n c = All-contains (Contains set) nodes n (l.least set rooted closed) c

  here : (n : Node) → Contains nodes n → names_of facts n ≡ names_of others n
  here n c = names_same facts others set same n (inside n c)

  module _ (other : List Node) (r : All (Contains other) roots) (c : IsClosed (names_of others) other) where
    abbrev in_both : Node → Bool
    in_both n = has other n && has nodes n

    roots_both : All (λ n. in_both n ≡ true) roots
    roots_both k d lt = let n = get_or roots k d in both (has other n) (has nodes n) (contains-has other n (r k d lt)) (contains-has nodes n (l.rooted k d lt))

    names_both : (n : Node) → in_both n ≡ true → All (λ m. in_both m ≡ true) (names_of facts n)
    names_both n h k d lt =
        let m = get_or (names_of facts n) k d in
        let in_other = has-contains other n (first_true (has other n) (has nodes n) h) in
        let in_nodes = has-contains nodes n (second_true (has other n) (has nodes n) h) in
        let far : All (Contains other) (names_of facts n) = subst (λ (ns : List Node). All (Contains other) ns) (sym (here n in_nodes)) (All-contains (λ x. All (Contains other) (names_of others x)) other n c in_other) in
        let near : All (Contains nodes) (names_of facts n) = All-contains (λ x. All (Contains nodes) (names_of facts x)) nodes n l.closed in_nodes in
        both (has other m) (has nodes m) (contains-has other m (far k d lt)) (contains-has nodes m (near k d lt))

    least_there : All (Contains other) nodes
    least_there = All-weaker (λ n. in_both n ≡ true) (Contains other) (λ n h. has-contains other n (first_true (has other n) (has nodes n) h)) nodes
        (least_test in_both (names_of facts) roots nodes l roots_both names_both)

  one_way : IsLeastClosed (names_of others) roots nodes
  one_way = record {
    rooted = l.rooted;
    closed = All-from_any laws (λ n. All (Contains nodes) (names_of others n)) nodes (λ n g. let c = has-contains nodes n g in
        subst (λ (ns : List Node). All (Contains nodes) ns) (here n c) (All-contains (λ m. All (Contains nodes) (names_of facts m)) nodes n l.closed c));
    least = least_there;
  }

closed_too : (facts others : List Fact) (set : List Node) → HaveSameFacts facts others set → IsClosed (names_of facts) set → IsClosed (names_of others) set
closed_too facts others set same closed k d lt = subst (λ (ns : List Node). All (Contains set) ns) (names_same facts others set same (get_or set k d) (All-contains_itself set k d lt)) (closed k d lt)

pub one_slice : (facts others : List Fact) (set roots nodes : List Node) → HaveSameFacts facts others set → IsClosed (names_of facts) set → All (Contains set) roots
    → IsLeastClosed (names_of facts) roots nodes ↔ IsLeastClosed (names_of others) roots nodes
one_slice facts others set roots nodes same closed rooted = (
  λ l. one_way facts others set roots nodes same closed rooted l,
  λ l. one_way others facts set roots nodes (λ n c. sym (same n c)) (closed_too facts others set same closed) rooted l,
)

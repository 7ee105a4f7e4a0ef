-- Which nodes have a fact.
use Rattle.std.proofs.Common.{◌≡◌, Bool, true, false, ◌||◌, ◌&&◌, cond, Some, is_some, List, [], ◌∷◌, refl, sym, ap, ◌∙◌, arith}
use Rattle.std.proofs.lemmas.Grind.{common_steps}
use Rattle.std.specs.List.{list_all}
use Rattle.ut_logic.specs.declared.node.Node.{Node}
use Rattle.ut_logic.specs.declared.facts.Fact.{Fact}
use Rattle.ut_logic.specs.Node.{node_eq}
use Rattle.model_slice.specs.Named.{nodes_of, first_of, names_of, AreKnown}
use Rattle.model_slice.specs.Found.{has, has_fact}
use Rattle.model_slice.proofs.AddedLaws.{laws, has_alike}
use Rattle.model_slice.proofs.TestLaws.{HasAll, all_have, have_all}
use Rattle.model_slice.proofs.Progress.{names_alike}

-- a node has a fact where it stands among their nodes
pub has_fact-nodes_of : (facts : List Fact) (n : Node) → has_fact facts n ≡ has (nodes_of facts) n
has_fact-nodes_of [] n = refl
has_fact-nodes_of (f ∷ fs) n = by (node_eq f.node n) refl (has_fact-nodes_of fs n)
  where
    by : (b : Bool) → node_eq f.node n ≡ b → is_some (first_of fs n) ≡ has (nodes_of fs) n → is_some (cond b (Some f) (first_of fs n)) ≡ (node_eq n f.node || has (nodes_of fs) n)
    by true e r = sym (ap (λ b. b || has (nodes_of fs) n) (laws.symm n f.node ∙ e))
    by false e r = r ∙ sym (ap (λ b. b || has (nodes_of fs) n) (laws.symm n f.node ∙ e))

and_first : (a b : Bool) → (a && b) ≡ true → a ≡ true
and_first true b h = refl
and_first false b h = h

and_second : (a b : Bool) → (a && b) ≡ true → b ≡ true
and_second true b h = h
and_second false b h = grind (arith, common_steps, h)

-- where each of the list has a fact, so has every node that the list has
pub all_pass : (facts : List Fact) (nodes : List Node) → list_all (has_fact facts) nodes ≡ true → HasAll (has (nodes_of facts)) nodes
all_pass facts [] h n g = grind (arith, common_steps, g)
all_pass facts (m ∷ nodes) h n g = by (node_eq n m) refl g (all_pass facts nodes (and_second (has_fact facts m) (list_all (has_fact facts) nodes) h) n)
  where
    by : (b : Bool) → node_eq n m ≡ b → (b || has nodes n) ≡ true → (has nodes n ≡ true → has (nodes_of facts) n ≡ true) → has (nodes_of facts) n ≡ true
    by true e i r = has_alike (nodes_of facts) n m e ∙ (sym (has_fact-nodes_of facts m) ∙ and_first (has_fact facts m) (list_all (has_fact facts) nodes) h)
    by false e i r = r i

-- and the other way round
pub pass_all : (facts : List Fact) (nodes : List Node) → HasAll (has (nodes_of facts)) nodes → list_all (has_fact facts) nodes ≡ true
pass_all facts [] h = refl
pass_all facts (m ∷ nodes) h = rw (has_fact-nodes_of facts m ∙ h m (ap (λ b. b || has nodes m) (laws.refl m))) (pass_all facts nodes (λ n g. h n (ap (λ b. node_eq n m || b) g ∙ second (node_eq n m))))
  where
    second : (b : Bool) → (b || true) ≡ true
    second true = refl
    second false = refl

module _ (facts : List Fact) where
  -- what the fact of a node of the list names has a fact
  names_have : (fs : List Fact) → list_all (λ f. list_all (has_fact facts) (names_of facts f.node)) fs ≡ true → (n m : Node) → has (nodes_of fs) n ≡ true → has (names_of facts n) m ≡ true → has (nodes_of facts) m ≡ true
  names_have [] h n m g i = grind (arith, common_steps, g)
  names_have (f ∷ fs) h n m g i = by (node_eq n f.node) refl g (names_have fs (and_second (list_all (has_fact facts) (names_of facts f.node)) _ h) n m)
    where
      by : (b : Bool) → node_eq n f.node ≡ b → (b || has (nodes_of fs) n) ≡ true → (has (nodes_of fs) n ≡ true → has (names_of facts n) m ≡ true → has (nodes_of facts) m ≡ true) → has (nodes_of facts) m ≡ true
      by true e j r = all_pass facts (names_of facts f.node) (and_first (list_all (has_fact facts) (names_of facts f.node)) _ h) m (ap (λ ns. has ns m) (sym (names_alike facts n f.node e)) ∙ i)
      by false e j r = r j i

  have_names : (fs : List Fact) → ((n m : Node) → has (names_of facts n) m ≡ true → has (nodes_of facts) m ≡ true) → list_all (λ f. list_all (has_fact facts) (names_of facts f.node)) fs ≡ true
  have_names [] h = refl
  have_names (f ∷ fs) h = rw (pass_all facts (names_of facts f.node) (h f.node)) (have_names fs h)

  -- a node without a fact names nothing
  no_fact : (fs : List Fact) (n m : Node) → has (nodes_of fs) n ≡ false → has (names_of fs n) m ≡ false
  no_fact [] n m h = refl
  no_fact (f ∷ fs) n m h = by (node_eq n f.node) refl h (no_fact fs n m)
    where
      by : (b : Bool) → node_eq n f.node ≡ b → (b || has (nodes_of fs) n) ≡ false → (has (nodes_of fs) n ≡ false → has (names_of fs n) m ≡ false) → has (cond (node_eq f.node n) f.names (names_of fs n)) m ≡ false
      by true e j r = grind (arith, common_steps, j)
      by false e j r = ap (λ b. has (cond b f.names (names_of fs n)) m) (laws.symm f.node n ∙ e) ∙ r j

  -- the tests tell whether all are known
  pub known_by_tests : (roots : List Node) → (list_all (has_fact facts) roots && list_all (λ f. list_all (has_fact facts) (names_of facts f.node)) facts) ≡ true → AreKnown facts roots
  known_by_tests roots h = record {
    rooted = all_have (nodes_of facts) roots (all_pass facts roots (and_first (list_all (has_fact facts) roots) _ h));
    named = λ n. all_have (nodes_of facts) (names_of facts n) (λ m g. by n m (has (nodes_of facts) n) refl g);
  }
    where
      by : (n m : Node) (b : Bool) → has (nodes_of facts) n ≡ b → has (names_of facts n) m ≡ true → has (nodes_of facts) m ≡ true
      by n m true e g = names_have facts (and_second (list_all (has_fact facts) roots) _ h) n m e g
      by n m false e g = grind (arith, common_steps, g, no_fact facts n m e)

  pub tests_by_known : (roots : List Node) → AreKnown facts roots → (list_all (has_fact facts) roots && list_all (λ f. list_all (has_fact facts) (names_of facts f.node)) facts) ≡ true
  tests_by_known roots k = rw (pass_all facts roots (have_all (nodes_of facts) roots k.rooted)) (have_names facts (λ n. have_all (nodes_of facts) (names_of facts n) (k.named n)))

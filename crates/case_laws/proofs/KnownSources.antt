-- The nodes of a source have facts, and so have those of its own that its facts name.
use Rattle.std.proofs.Common.{◌≡◌, ℕ, ◌+◌, ◌<◌, ◌≤◌, zero, suc, List, [], ◌∷◌, length, get_or, ap, sym, subst, arith}
use Rattle.std.specs.List.{Contains, flat_map}
use Rattle.std.proofs.lemmas.List.Elements.{Contains-append_left, Contains-append_right}
use Rattle.ut_logic.specs.declared.node.Node.{Node}
use Rattle.ut_logic.specs.declared.node.Node.TheVariants as node
use Rattle.ut_logic.specs.declared.facts.Fact.{Fact}
use Rattle.cpp_directives.specs.declared.directive.Directive.{Directive}
use Rattle.cpp_blocks.specs.Blocks.{count_of}
use Rattle.cpp_blocks.specs.Mentions as mentions
use Rattle.cpp_blocks.specs.Nodes.{block_nodes, state_nodes, name_nodes, nodes_of}
use Rattle.cpp_blocks.specs.Turns.{touched_in, turn_of}
use Rattle.ut_case.specs.BuiltFormulas.{built_of}
use Rattle.ut_case.specs.Facts.{facts_for, basis_facts_for, source_facts, files_of}
use Rattle.ut_case.specs.Numbering.{shared}
use Rattle.ut_case.specs.Posed.{IsPosed}
use Rattle.ut_case.specs.Problem.{Problem, source_at, directives_at}
use Rattle.ut_case.specs.Questions.{Question}
use Rattle.ut_case.specs.StartFormulas.{starts_from}
use Rattle.case_laws.proofs.Basics.{later}
use Rattle.case_laws.proofs.CaseFacts.{formed_at}
use Rattle.case_laws.proofs.Known.{IsImage, unmap}
use Rattle.case_laws.proofs.Lower.{SourcesAreKnown}
use Rattle.case_laws.proofs.MacroStarts.{contains_flat}
use Rattle.case_laws.proofs.Outside.{starts_count}

-- ---- the nodes of a source

blocks_there : (file a n k : ℕ) → k < n → Contains (block_nodes file a n) (node.Block file (a + k))
blocks_there file a zero k h = absurd (omega (arith, h))
blocks_there file a (suc n) zero h = let at : a ≡ a + 0 = omega arith in (0, omega arith, ap (λ b. node.Block file b) at)
blocks_there file a (suc n) (suc k) h = let at : suc a + k ≡ a + suc k = omega arith in
    later (node.Block file a) (block_nodes file (suc a) n) (node.Block file (a + suc k)) (subst (λ b. Contains (block_nodes file (suc a) n) (node.Block file b)) at (blocks_there file (suc a) n k (omega (arith, h))))

states_there : (file name a n k : ℕ) → k < n → Contains (state_nodes file name a n) (node.State file name (a + k))
states_there file name a zero k h = absurd (omega (arith, h))
states_there file name a (suc n) zero h = let at : a ≡ a + 0 = omega arith in (0, omega arith, ap (λ t. node.State file name t) at)
states_there file name a (suc n) (suc k) h = let at : suc a + k ≡ a + suc k = omega arith in
    later (node.State file name a) (state_nodes file name (suc a) n) (node.State file name (a + suc k)) (subst (λ t. Contains (state_nodes file name (suc a) n) (node.State file name t)) at (states_there file name (suc a) n k (omega (arith, h))))

names_there : (file : ℕ) (touched : List (List ℕ)) (a : ℕ) (names : List (List ℕ)) (j turn : ℕ) → j < length names → turn ≤ turn_of touched (get_or names j [])
    → Contains (name_nodes file touched a names) (node.State file (a + j) turn)
names_there file touched a [] j turn h g = absurd (omega (arith, h))
names_there file touched a (name ∷ names) zero turn h g = let at : a ≡ a + 0 = omega arith in let from : 0 + turn ≡ turn = omega arith in
    Contains-append_left (state_nodes file a 0 (suc (turn_of touched name))) (name_nodes file touched (suc a) names) (node.State file (a + 0) turn)
    (subst (λ n. Contains (state_nodes file a 0 (suc (turn_of touched name))) (node.State file n turn)) at
    (subst (λ t. Contains (state_nodes file a 0 (suc (turn_of touched name))) (node.State file a t)) from (states_there file a 0 (suc (turn_of touched name)) turn (omega (arith, g)))))
names_there file touched a (name ∷ names) (suc j) turn h g = let at : suc a + j ≡ a + suc j = omega arith in
    Contains-append_right (state_nodes file a 0 (suc (turn_of touched name))) (name_nodes file touched (suc a) names) (node.State file (a + suc j) turn)
    (subst (λ n. Contains (name_nodes file touched (suc a) names) (node.State file n turn)) at (names_there file touched (suc a) names j turn (omega (arith, h)) g))

module _ (file : ℕ) (ds : List Directive) where
  pub block_there : (block : ℕ) → block ≤ count_of ds → Contains (nodes_of file ds) (node.Block file block)
  block_there block h = let at : 0 + block ≡ block = omega arith in
      Contains-append_left (block_nodes file 0 (suc (count_of ds))) (name_nodes file (touched_in ds) 0 (mentions.names_of ds)) (node.Block file block)
      (subst (λ b. Contains (block_nodes file 0 (suc (count_of ds))) (node.Block file b)) at (blocks_there file 0 (suc (count_of ds)) block (omega (arith, h))))

  pub state_there : (name turn : ℕ) → name < length (mentions.names_of ds) → turn ≤ turn_of (touched_in ds) (get_or (mentions.names_of ds) name []) → Contains (nodes_of file ds) (node.State file name turn)
  state_there name turn h g = let at : 0 + name ≡ name = omega arith in
      Contains-append_right (block_nodes file 0 (suc (count_of ds))) (name_nodes file (touched_in ds) 0 (mentions.names_of ds)) (node.State file name turn)
      (subst (λ n. Contains (name_nodes file (touched_in ds) 0 (mentions.names_of ds)) (node.State file n turn)) at (names_there file (touched_in ds) 0 (mentions.names_of ds) name turn h g))

-- ---- facts of a question

-- a node has a fact of the question
abbrev pub HasFact : Problem → Question → Node → Type 0
HasFact p q n = IsImage (λ (f : Fact). f.node) (facts_for p q) n

-- by the basis
pub basis_fact : (p : Problem) (q : Question) (n : Node) → IsImage (λ (f : Fact). f.node) (basis_facts_for (shared p) q.family) n → HasFact p q n
basis_fact p q n h = record {
  from = h.from;
  there = Contains-append_left (basis_facts_for (shared p) q.family) (flat_map (λ file. source_facts (shared p) q.family file (source_at p file)) (files_of q)) h.from h.there;
  is = h.is;
}

-- by a source whose facts the question has
pub source_fact : SourcesAreKnown → (p : Problem) → IsPosed p → (q : Question) (file : ℕ) → Contains (files_of q) file → (n : Node) → Contains (nodes_of file (directives_at p file)) n → HasFact p q n
source_fact known p posed q file listed n there =
    let s = shared p in
    let ds = directives_at p file in
    let facts = source_facts s q.family file (source_at p file) in
    let nodes = known file ds (starts_from s q.family file 0 (mentions.names_of ds)) (built_of s q.family (source_at p file).paths) (formed_at p posed file) (starts_count s q.family file 0 (mentions.names_of ds)) in
    let r = unmap (λ (f : Fact). f.node) facts n (subst (λ (ns : List Node). Contains ns n) (sym nodes) there) in
    record {
      from = r.from;
      there = Contains-append_right (basis_facts_for s q.family) (flat_map (λ other. source_facts s q.family other (source_at p other)) (files_of q)) r.from
          (contains_flat (λ other. source_facts s q.family other (source_at p other)) (files_of q) file r.from listed r.there);
      is = r.is;
    }

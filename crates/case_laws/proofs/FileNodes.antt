-- The nodes of a source's facts are blocks and macro states of that source.
use Rattle.std.proofs.Common.{◌≡◌, ℕ, suc, zero, List, [], ◌∷◌, All, refl, subst}
use Rattle.std.specs.List.{Contains}
use Rattle.std.proofs.lemmas.List.Elements.{All-append, All-cons, All-nil, All-contains}
use Rattle.ut_logic.specs.declared.node.Node.{Node}
use Rattle.ut_logic.specs.declared.node.Node.TheVariants as node
use Rattle.ut_logic.specs.declared.facts.Fact.{Fact}
use Rattle.cpp_directives.specs.declared.directive.Directive.{Directive}
use Rattle.cpp_blocks.specs.Blocks.{count_of}
use Rattle.cpp_blocks.specs.Mentions as mentions
use Rattle.cpp_blocks.specs.Nodes.{block_nodes, state_nodes, name_nodes, nodes_of}
use Rattle.cpp_blocks.specs.Turns.{touched_in, turn_of}
use Rattle.kconf_tree.proofs.GraphOrders.{contains_map}
use Rattle.ut_case.specs.BuiltFormulas.{built_of}
use Rattle.ut_case.specs.Facts.{source_facts}
use Rattle.ut_case.specs.Numbering.{shared}
use Rattle.ut_case.specs.Posed.{IsPosed}
use Rattle.ut_case.specs.Problem.{Problem, directives_at, source_at}
use Rattle.ut_case.specs.Questions.{Question}
use Rattle.ut_case.specs.StartFormulas.{starts_from}
use Rattle.case_laws.proofs.CaseFacts.{formed_at}
use Rattle.case_laws.proofs.FactKinds.{IsOfSource}
use Rattle.case_laws.proofs.Lower.{SourcesAreKnown}
use Rattle.case_laws.proofs.Outside.{starts_count}

-- a block or a state of the file
abbrev pub IsOfFile : ℕ → Node → Type 0
IsOfFile file (node.Sym k) = ⊥
IsOfFile file (node.Choice i) = ⊥
IsOfFile file (node.Block f block) = f ≡ file
IsOfFile file (node.State f name turn) = f ≡ file

module _ (file : ℕ) where
  blocks_of_file : (a n : ℕ) → All (IsOfFile file) (block_nodes file a n)
  blocks_of_file a zero = All-nil (IsOfFile file)
  blocks_of_file a (suc n) = All-cons (IsOfFile file) (node.Block file a) (block_nodes file (suc a) n) refl (blocks_of_file (suc a) n)

  states_of_file : (name a n : ℕ) → All (IsOfFile file) (state_nodes file name a n)
  states_of_file name a zero = All-nil (IsOfFile file)
  states_of_file name a (suc n) = All-cons (IsOfFile file) (node.State file name a) (state_nodes file name (suc a) n) refl (states_of_file name (suc a) n)

  names_of_file : (touched : List (List ℕ)) (a : ℕ) (names : List (List ℕ)) → All (IsOfFile file) (name_nodes file touched a names)
  names_of_file touched a [] = All-nil (IsOfFile file)
  names_of_file touched a (name ∷ names) = All-append (IsOfFile file) (state_nodes file a 0 (suc (turn_of touched name))) (name_nodes file touched (suc a) names)
      (states_of_file a 0 (suc (turn_of touched name))) (names_of_file touched (suc a) names)

  all_of_file : (ds : List Directive) → All (IsOfFile file) (nodes_of file ds)
  all_of_file ds = All-append (IsOfFile file) (block_nodes file 0 (suc (count_of ds))) (name_nodes file (touched_in ds) 0 (mentions.names_of ds))
      (blocks_of_file 0 (suc (count_of ds))) (names_of_file (touched_in ds) 0 (mentions.names_of ds))

-- the node of a fact of a source
pub fact_of_file : SourcesAreKnown → (p : Problem) → IsPosed p → (q : Question) (fact : Fact) → (h : IsOfSource p q fact) → IsOfFile h.file fact.node
fact_of_file known p posed q fact h =
    let s = shared p in
    let ds = directives_at p h.file in
    let facts = source_facts s q.family h.file (source_at p h.file) in
    let nodes = known h.file ds (starts_from s q.family h.file 0 (mentions.names_of ds)) (built_of s q.family (source_at p h.file).paths) (formed_at p posed h.file) (starts_count s q.family h.file 0 (mentions.names_of ds)) in
    All-contains (IsOfFile h.file) (nodes_of h.file ds) fact.node (all_of_file h.file ds)
    (subst (λ (ns : List Node). Contains ns fact.node) nodes (contains_map (λ (f : Fact). f.node) facts fact h.there))

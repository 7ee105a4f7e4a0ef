-- Each root of a question, and each node that a fact of it names, has a fact.
use Rattle.std.proofs.Common.{◌≡◌, ℕ, suc, List, [], ◌∷◌, All, refl, sym, subst, inl, inr, arith}
use Rattle.std.specs.List.{AllByRecursion, Contains, flat_map}
use Rattle.std.proofs.lemmas.List.Elements.{All-append, All-from_recursion, recursion_from_All, All-contains, All-contains_itself, All-weaker}
use Rattle.ut_logic.specs.declared.node.Node.{Node}
use Rattle.ut_logic.specs.declared.node.Node.TheVariants as node
use Rattle.ut_logic.specs.declared.facts.Fact.{Fact}
use Rattle.cpp_directives.specs.declared.directive.Directive.{Directive}
use Rattle.cpp_blocks.specs.declared.starts.StartOf.{StartOf}
use Rattle.cpp_blocks.specs.declared.starts.BuiltOf.{BuiltOf}
use Rattle.cpp_blocks.specs.Mentions as mentions
use Rattle.cpp_blocks.specs.Nodes.{IsBelow, IsOfTree, IsOrderly, NamesGiven, rank_of}
use Rattle.kconf_tree.proofs.GraphOrders.{contains_map}
use Rattle.kconf_tree.specs.WellMade.{IsNodeOf}
use Rattle.kconf_constr.specs.Closed as closed
use Rattle.kconf_constr.specs.FactsOf as tree
use Rattle.model_slice.specs.Named.{nodes_of}
use Rattle.ut_case.specs.declared.question.Family.{Family}
use Rattle.ut_case.specs.declared.question.Family.TheVariants as family
use Rattle.ut_case.specs.declared.wish.Wish.{Wish}
use Rattle.ut_case.specs.BuiltFormulas.{built_of}
use Rattle.ut_case.specs.Facts.{facts_for, nodes_for, source_facts}
use Rattle.ut_case.specs.Needs.{roots_of}
use Rattle.ut_case.specs.Numbering.{shared}
use Rattle.ut_case.specs.Posed.{IsPosed, IsWishOf}
use Rattle.ut_case.specs.Problem.{Problem, directives_at, source_at}
use Rattle.ut_case.specs.Questions.{Question}
use Rattle.ut_case.specs.StartFormulas.{scope_of, starts_from}
use Rattle.case_laws.specs.Listed.{QuestionsAreKnown}
use Rattle.case_laws.proofs.CaseFacts.{formed_at}
use Rattle.case_laws.proofs.FactKinds.{Kind, Tree, Name, Source, IsOfSource, kind_of}
use Rattle.case_laws.proofs.Known.{names_pass}
use Rattle.case_laws.proofs.KnownQuestions.{BasisHas, rule_node, tree_node, wish_roots}
use Rattle.case_laws.proofs.KnownSources.{HasFact, basis_fact, block_there, state_there, source_fact}
use Rattle.case_laws.proofs.Lower.{FactsNameNodes, SourcesAreKnown, SourcesAreOrderly, SourcesNameGiven}
use Rattle.case_laws.proofs.NamesKnown.{built_known, starts_known}
use Rattle.case_laws.proofs.StartsListed.{Owns, built_listed, starts_listed}
use Rattle.case_laws.proofs.TreeCases.{well_made}

-- what holds of each element that a list has
pub all_by : {X : Type 0} (P : X → Type 0) (xs : List X) → ((x : X) → Contains xs x → P x) → All P xs
all_by P xs h = All-weaker (Contains xs) P h xs (All-contains_itself xs)

pub each_by : {X : Type 0} (P : X → Type 0) (xs : List X) → ((x : X) → Contains xs x → P x) → AllByRecursion P xs
each_by P xs h = recursion_from_All P xs (all_by P xs h)

-- a node with a fact is one of the nodes of facts
pub node_there : (p : Problem) (q : Question) (n : Node) → HasFact p q n → Contains (nodes_of (facts_for p q)) n
node_there p q n h = subst (Contains (nodes_of (facts_for p q))) h.is (contains_map (λ (f : Fact). f.node) (facts_for p q) h.from h.there)

module _ (owns : Owns) (named : FactsNameNodes) (known : SourcesAreKnown) (orderly : SourcesAreOrderly) (given : SourcesNameGiven) (p : Problem) (q : Question) (posed : IsPosed p) where
  -- a symbol or a choice that a source's fact names
  of_given : (file : ℕ) (fact : Fact) → NamesGiven (starts_from (shared p) q.family file 0 (mentions.names_of (directives_at p file))) (built_of (shared p) q.family (source_at p file).paths) fact
      → (n : Node) → Contains fact.names n → IsOfTree n → HasFact p q n
  of_given file fact h n there tree = elim (h n there tree) [
    | inl m ↦ basis_fact p q n (All-contains (BasisHas p q.family) built.names n (All-from_recursion (BasisHas p q.family) built.names (built_known p posed q.family (source_at p file).paths)) m)
    | inr s ↦ basis_fact p q n (All-contains (BasisHas p q.family) s.0.names n (All-from_recursion (BasisHas p q.family) s.0.names (of_start s.0 s.1)) s.2)
  ]
    where
      built : BuiltOf
      built = built_of (shared p) q.family (source_at p file).paths

      starts : List StartOf
      starts = starts_from (shared p) q.family file 0 (mentions.names_of (directives_at p file))

      of_start : (s : StartOf) → Contains starts s → AllByRecursion (BasisHas p q.family) s.names
      of_start s m = All-contains (λ (x : StartOf). AllByRecursion (BasisHas p q.family) x.names) starts s
          (All-from_recursion (λ (x : StartOf). AllByRecursion (BasisHas p q.family) x.names) starts (starts_known owns p posed q.family file 0 (mentions.names_of (directives_at p file)))) m

  of_source : (fact : Fact) → IsOfSource p q fact → (n : Node) → Contains fact.names n → HasFact p q n
  of_source fact h n there = by n there (All-contains (IsBelow h.file ds (rank_of ds fact.node)) fact.names n lower there)
    where
      ds : List Directive
      ds = directives_at p h.file

      starts : List StartOf
      starts = starts_from (shared p) q.family h.file 0 (mentions.names_of (directives_at p h.file))

      built : BuiltOf
      built = built_of (shared p) q.family (source_at p h.file).paths

      lower : IsOrderly h.file ds fact
      lower = All-contains (IsOrderly h.file ds) (source_facts (shared p) q.family h.file (source_at p h.file)) fact
          (orderly h.file ds starts built (formed_at p posed h.file) (starts_listed owns (shared p) q.family h.file 0 (mentions.names_of (directives_at p h.file))) (built_listed (shared p) q.family (source_at p h.file).paths)) h.there

      its : NamesGiven starts built fact
      its = All-contains (NamesGiven starts built) (source_facts (shared p) q.family h.file (source_at p h.file)) fact (given h.file ds starts built) h.there

      by : (m : Node) → Contains fact.names m → IsBelow h.file ds (rank_of ds fact.node) m → HasFact p q m
      by (node.Sym k) m low = of_given h.file fact its (node.Sym k) m tt
      by (node.Choice i) m low = of_given h.file fact its (node.Choice i) m tt
      by (node.Block f block) m low = subst (λ (g : ℕ). HasFact p q (node.Block g block)) (sym low.0) (source_fact known p posed q h.file h.listed (node.Block h.file block) (block_there h.file ds block low.1))
      by (node.State f name turn) m low = subst (λ (g : ℕ). HasFact p q (node.State g name turn)) (sym low.0) (source_fact known p posed q h.file h.listed (node.State h.file name turn) (state_there h.file ds name turn low.1 low.2))

  -- what a fact of the question names
  pub names_have : (fact : Fact) → Kind p q fact → (n : Node) → Contains fact.names n → HasFact p q n
  names_have fact (Tree h) n there = basis_fact p q n (tree_node p q.family h.asks h.shape h.is n
      (All-contains (IsNodeOf h.shape) fact.names n (All-contains (closed.NamesNodes h.shape) (tree.facts_of (scope_of (shared p) q.family h.shape)) fact (named (scope_of (shared p) q.family h.shape) (well_made p h.shape posed h.is)) h.there) there))
  names_have fact (Name h) n there = let none : Contains [] n = subst (λ (g : Fact). Contains g.names n) h.same there in absurd (omega (arith, none.0, none.1))
  names_have fact (Source h) n there = of_source fact h n there

-- ---- roots

module _ (p : Problem) (q : Question) (posed : IsPosed p) where
  rules_have : (f : Family) → f ≡ q.family → (n : Node) → Contains (nodes_for f p.basis) n → BasisHas p f n
  rules_have family.Code e n h = absurd (omega (arith, h.1))
  rules_have family.Kconfig e n h = rule_node p family.Kconfig (λ g. absurd (cc)) p.basis refl n h
  rules_have family.Whole e n h = rule_node p family.Whole (λ g. absurd (cc)) p.basis refl n h

pub questions_known : Owns → FactsNameNodes → SourcesAreKnown → SourcesAreOrderly → SourcesNameGiven → QuestionsAreKnown
questions_known owns named known orderly given p q askable = record {
  rooted = All-append (Contains (nodes_of (facts_for p q))) (nodes_for q.family p.basis) (flat_map (roots_of p) q.wishes) rules wishes;
  named = λ n. names_pass (Contains (nodes_of (facts_for p q))) (facts_for p q) n
      (each_by (λ (f : Fact). All (Contains (nodes_of (facts_for p q))) f.names) (facts_for p q) (λ f there. all_by (Contains (nodes_of (facts_for p q))) f.names
      (λ m has. node_there p q m (names_have owns named known orderly given p q askable.posed f (kind_of p q f there) m has))));
}
  where
    rules : All (Contains (nodes_of (facts_for p q))) (nodes_for q.family p.basis)
    rules = all_by (Contains (nodes_of (facts_for p q))) (nodes_for q.family p.basis) (λ n h. node_there p q n (basis_fact p q n (rules_have p q askable.posed q.family refl n h)))

    wish_has : (w : Wish) → Contains q.wishes w → AllByRecursion (HasFact p q) (roots_of p w)
    wish_has w there = wish_roots known p q askable w there (All-contains (IsWishOf p q) q.wishes w askable.wished there)

    each : (ws : List Wish) → ((w : Wish) → Contains ws w → Contains q.wishes w) → All (Contains (nodes_of (facts_for p q))) (flat_map (roots_of p) ws)
    each [] within = λ k d l. absurd (omega (arith, l))
    each (w ∷ ws) within = All-append (Contains (nodes_of (facts_for p q))) (roots_of p w) (flat_map (roots_of p) ws)
        (All-weaker (HasFact p q) (Contains (nodes_of (facts_for p q))) (node_there p q) (roots_of p w) (All-from_recursion (HasFact p q) (roots_of p w) (wish_has w (within w (0, omega arith, refl)))))
        (each ws (λ x h. within x (later w ws x h)))
      where
        later : (y : Wish) (ys : List Wish) (x : Wish) → Contains ys x → Contains (y ∷ ys) x
        later y ys x h = (suc h.0, omega (arith, h.1), h.2)

    wishes : All (Contains (nodes_of (facts_for p q))) (flat_map (roots_of p) q.wishes)
    wishes = each q.wishes (λ w h. h)

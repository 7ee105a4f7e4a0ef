-- Each root of a question, and each node that one of its facts names, has a fact.
use Rattle.std.proofs.Common.{◌≡◌, ℕ, ◌+◌, ◌<◌, ◌≤◌, zero, suc, List, [], ◌∷◌, map, length, Option, None, Some, refl, sym, subst, arith}
use Rattle.std.specs.Prelude.{Result, Ok, Err}
use Rattle.std.specs.List.{AllByRecursion, Contains, flat_map, range_with_len}
use Rattle.std.specs.Option.{option_to_list}
use Rattle.std.proofs.lemmas.List.Elements.{All-from_recursion, recursion_from_All, All-contains}
use Rattle.ut_logic.specs.declared.node.Node.{Node}
use Rattle.ut_logic.specs.declared.node.Node.TheVariants as node
use Rattle.ut_logic.specs.declared.facts.Fact.{Fact}
use Rattle.cpp_directives.specs.declared.directive.Directive.{Directive}
use Rattle.cpp_directives.specs.declared.bad.CppBad.{CppBad}
use Rattle.cpp_blocks.specs.Blocks.{count_of}
use Rattle.kconf_tree.specs.Shape.{Shape, number_of}
use Rattle.kconf_tree.specs.WellMade.{IsNodeOf}
use Rattle.model_slice.specs.Named.{nodes_of}
use Rattle.ut_case.specs.declared.question.Family.{Family}
use Rattle.ut_case.specs.declared.question.Family.TheVariants as family
use Rattle.ut_case.specs.declared.wish.Wish.{Wish}
use Rattle.ut_case.specs.declared.wish.Wish.TheVariants as wish
use Rattle.ut_case.specs.BuiltFormulas.{enabled_nodes}
use Rattle.ut_case.specs.Facts.{facts_for, basis_facts, basis_facts_for, basis_nodes, places, wish_files, files_of}
use Rattle.ut_case.specs.Needs.{roots_of}
use Rattle.ut_case.specs.Numbering.{shared}
use Rattle.ut_case.specs.Posed.{IsAskable, IsWishOf, HasBlock}
use Rattle.ut_case.specs.Problem.{Basis, OfTree, OfRules, Problem, directives_in, directives_at, source_at}
use Rattle.ut_case.specs.Questions.{Question}
use Rattle.ut_case.specs.StartFormulas.{scope_of, symbol_nodes}
use Rattle.case_laws.proofs.Known.{IsImage, firsts_have, name_has, tree_has, unmap}
use Rattle.case_laws.proofs.KnownSources.{HasFact, basis_fact, block_there, source_fact}
use Rattle.case_laws.proofs.Lower.{SourcesAreKnown}
use Rattle.case_laws.proofs.MacroStarts.{contains_flat}
use Rattle.case_laws.proofs.TreeCases.{number_within}

-- ---- nodes of the basis

-- it has a fact of the basis in this family
abbrev pub BasisHas : Problem → Family → Node → Type 0
BasisHas p f n = IsImage (λ (g : Fact). g.node) (basis_facts_for (shared p) f) n

module _ (p : Problem) where
  pub of_basis : (f : Family) (b : Basis) → p.basis ≡ b → (n : Node) → IsImage (λ (g : Fact). g.node) (basis_facts (shared p) f b) n → IsImage (λ (g : Fact). g.node) (basis_facts (shared p) f p.basis) n
  of_basis f b is n h = subst (λ (c : Basis). IsImage (λ (g : Fact). g.node) (basis_facts (shared p) f c) n) (sym is) h

  pub tree_node : (f : Family) → (f ≡ family.Code → ⊥) → (t : Shape) → p.basis ≡ OfTree t → (n : Node) → IsNodeOf t n → BasisHas p f n
  tree_node family.Code other t is n h = absurd (other refl)
  tree_node family.Kconfig other t is n h = of_basis family.Kconfig (OfTree t) is n (tree_has (scope_of (shared p) family.Kconfig t) n h)
  tree_node family.Whole other t is n h = of_basis family.Whole (OfTree t) is n (tree_has (scope_of (shared p) family.Whole t) n h)

  pub rule_node : (f : Family) → (f ≡ family.Code → ⊥) → (b : Basis) → p.basis ≡ b → (n : Node) → Contains (basis_nodes b) n → BasisHas p f n
  rule_node f other (OfTree t) is n h = absurd (omega (arith, h.1))
  rule_node f other (OfRules r) is n h = All-contains (BasisHas p f) (map (λ k. node.Sym k) (places r.names)) n (All-from_recursion (BasisHas p f) (map (λ k. node.Sym k) (places r.names)) (each (places r.names) all_within)) h
    where
      one : (g : Family) → (g ≡ family.Code → ⊥) → (k : ℕ) → k < length r.names → BasisHas p g (node.Sym k)
      one family.Code off k lt = absurd (off refl)
      one family.Kconfig off k lt = of_basis family.Kconfig (OfRules r) is (node.Sym k) (name_has r.names k lt)
      one family.Whole off k lt = of_basis family.Whole (OfRules r) is (node.Sym k) (name_has r.names k lt)

      each : (ks : List ℕ) → AllByRecursion (λ k. k < length r.names) ks → AllByRecursion (BasisHas p f) (map (λ k. node.Sym k) ks)
      each [] l = tt
      each (k ∷ ks) l = (one f other k l.0, each ks l.1)

      below : (a n : ℕ) → AllByRecursion (λ k. k < a + n) (range_with_len a n)
      below a zero = tt
      below a (suc n) = (omega arith, weaker (range_with_len (a + 1) n) (below (a + 1) n))
        where
          weaker : (ks : List ℕ) → AllByRecursion (λ k. k < (a + 1) + n) ks → AllByRecursion (λ k. k < a + suc n) ks
          weaker [] l = tt
          weaker (k ∷ ks) l = let first : k < (a + 1) + n = l.0 in (omega (arith, first), weaker ks l.1)

      all_within : AllByRecursion (λ k. k < length r.names) (places r.names)
      all_within = let at : 0 + length r.names ≡ length r.names = omega arith in subst (λ (n : ℕ). AllByRecursion (λ k. k < n) (places r.names)) at (below 0 (length r.names))

-- ---- roots

module _ (known : SourcesAreKnown) (p : Problem) (q : Question) (askable : IsAskable p q) where
  -- a block of a source that is not refused is counted
  counted : (r : Result (List Directive) CppBad) (block : ℕ) → HasBlock r block → block ≤ count_of (directives_in r)
  counted (Ok ds) block h = h
  counted (Err e) block h = absurd h

  -- what the wish names is among the files
  listed_file : (w : Wish) → Contains q.wishes w → (file : ℕ) → Contains (wish_files w) file → Contains (files_of q) file
  listed_file w there file h = firsts_have (flat_map wish_files q.wishes) [] file (contains_flat wish_files q.wishes w file there h)

  -- a declared name of a tree
  name_nodes_known : (f : Family) → f ≡ family.Whole → (b : Basis) → p.basis ≡ b → (name : List ℕ) → AllByRecursion (BasisHas p f) (enabled_nodes b name)
  name_nodes_known family.Code e b is name = absurd (cc)
  name_nodes_known family.Kconfig e b is name = absurd (cc)
  name_nodes_known family.Whole e (OfRules r) is name = tt
  name_nodes_known family.Whole e (OfTree t) is name = by (number_of t name) refl
    where
      by : (o : Option ℕ) → number_of t name ≡ o → AllByRecursion (BasisHas p family.Whole) (symbol_nodes (option_to_list o))
      by None g = tt
      by (Some k) g = (tree_node p family.Whole (λ h. absurd (cc)) t is (node.Sym k) (number_within t name k g), tt)

  lifted : (ns : List Node) → AllByRecursion (BasisHas p q.family) ns → AllByRecursion (HasFact p q) ns
  lifted [] h = tt
  lifted (n ∷ ns) h = (basis_fact p q n h.0, lifted ns h.1)

  -- a node of the facts has one of them
  has_of : (ns : List Node) → AllByRecursion (Contains (nodes_of (facts_for p q))) ns → AllByRecursion (HasFact p q) ns
  has_of [] h = tt
  has_of (n ∷ ns) h = (from_node n h.0, has_of ns h.1)
    where
      use_image : (m : Node) → Contains (map (λ (g : Fact). g.node) (facts_for p q)) m → HasFact p q m
      use_image m g = unmap (λ (x : Fact). x.node) (facts_for p q) m g

      from_node : (m : Node) → Contains (nodes_of (facts_for p q)) m → HasFact p q m
      from_node m g = use_image m g

  pub wish_roots : (w : Wish) → Contains q.wishes w → IsWishOf p q w → AllByRecursion (HasFact p q) (roots_of p w)
  wish_roots (wish.Block b) there h = (
    source_fact known p askable.posed q b.file (listed_file (wish.Block b) there b.file (0, omega arith, refl)) (node.Block b.file b.block)
        (block_there b.file (directives_at p b.file) b.block (counted (source_at p b.file).read b.block h.block)),
    tt,
  )
  wish_roots (wish.On name) there h = lifted (enabled_nodes p.basis name) (name_nodes_known q.family h p.basis refl name)
  wish_roots (wish.Off name) there h = lifted (enabled_nodes p.basis name) (name_nodes_known q.family h p.basis refl name)
  wish_roots (wish.Holds formula nodes) there h = has_of nodes (recursion_from_All (Contains (nodes_of (facts_for p q))) nodes h.nodes_have_facts)

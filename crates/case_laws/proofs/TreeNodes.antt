-- The needed nodes of a tree are a closed part of it.
use Rattle.std.proofs.Common.{◌≡◌, ℕ, zero, suc, Bool, true, false, ◌||◌, cond, List, [], ◌∷◌, ◌++◌, filter, length, Some, refl, ap, sym, subst, ◌∙◌, arith}
use Rattle.std.specs.List.{Contains, flat_map, list_any}
use Rattle.std.specs.List.Sorted.{IsStrictlySortedBy}
use Rattle.std.proofs.lemmas.Bool.{false≢true}
use Rattle.std.proofs.lemmas.List.Elements.{All-contains}
use Rattle.ut_logic.specs.declared.item.Item.{Item}
use Rattle.ut_logic.specs.declared.node.Node.{Node}
use Rattle.ut_logic.specs.declared.node.Node.TheVariants as node
use Rattle.ut_logic.specs.declared.facts.Fact.{Fact}
use Rattle.ut_logic.specs.Facts.{MeetsAll}
use Rattle.ut_logic.specs.Node.{node_eq}
use Rattle.ut_logic.specs.NodeIdentity.{node_eq-Decides}
use Rattle.model_slice.specs.Named.{AreKnown}
use Rattle.model_slice.proofs.ClosedLaws.{kept}
use Rattle.kconf_tree.specs.Parts.{part_of_nodes, IsClosedPart}
use Rattle.kconf_tree.specs.Shape.{Shape}
use Rattle.kconf_tree.specs.WellMade.{IsNodeOf}
use Rattle.kconf_constr.specs.Closed as closed
use Rattle.kconf_constr.specs.FactsOf as tree
use Rattle.kconf_constr.specs.Scope.{IsRising, Scope}
use Rattle.kconf_constr.specs.Standing.{AreClosed, MeetsOn, SomeConfiguration}
use Rattle.ut_case.specs.declared.question.Family.{Family}
use Rattle.ut_case.specs.declared.question.Family.TheVariants as family
use Rattle.ut_case.specs.Facts.{facts_for, nodes_for}
use Rattle.ut_case.specs.Needs.{AreNeeds, needed_facts, roots_of}
use Rattle.ut_case.specs.Numbering.{shared}
use Rattle.ut_case.specs.Posed.{IsPosed}
use Rattle.ut_case.specs.Problem.{OfTree, OfRules, Problem}
use Rattle.ut_case.specs.Questions.{Question}
use Rattle.ut_case.specs.StartFormulas.{scope_of, undeclared_in}
use Rattle.case_laws.proofs.AllKnown.{all_by}
use Rattle.case_laws.proofs.FactKinds.{Kind, Tree, Name, Source, kind_of}
use Rattle.case_laws.proofs.FileNodes.{IsOfFile, fact_of_file}
use Rattle.case_laws.proofs.Found.{Found}
use Rattle.case_laws.proofs.ItemKinds.{IsNeededFact}
use Rattle.case_laws.proofs.ItemsOf.{place_within}
use Rattle.case_laws.proofs.Lower.{FactsNameNodes, NodesAreAPart, SourcesAreKnown, TruthsStand}
use Rattle.case_laws.proofs.MentionedSources.{fact_at, found_at, named_needed}
use Rattle.case_laws.proofs.OwnListed.{TreeKind, Symbol, Choice, same_number, same_tree, tree_kind}
use Rattle.case_laws.proofs.TreeCases.{well_made}

-- ---- nodes of a tree among others

abbrev pub is_of_tree : Node → Bool
is_of_tree (node.Sym k) = true
is_of_tree (node.Choice i) = true
is_of_tree (node.Block file block) = false
is_of_tree (node.State file n turn) = false

-- those of a tree
abbrev pub of_tree : List Node → List Node
of_tree nodes = filter is_of_tree nodes

pub tree_there : (nodes : List Node) (n : Node) → is_of_tree n ≡ true → Contains nodes n → Contains (of_tree nodes) n
tree_there nodes n h there = kept is_of_tree nodes n h there

-- one of the nodes that is a tree's
pub record IsTreeNode (nodes : List Node) (n : Node) : Type 0 where
  pub there : Contains nodes n
  pub of_tree : is_of_tree n ≡ true

later_node : (m : Node) (ms : List Node) (n : Node) → IsTreeNode ms n → IsTreeNode (m ∷ ms) n
later_node m ms n r = record { there = (suc r.there.0, omega (arith, r.there.1), r.there.2); of_tree = r.of_tree }

pub there_back : (nodes : List Node) (n : Node) → Contains (of_tree nodes) n → IsTreeNode nodes n
there_back [] n h = absurd (omega (arith, h.0, h.1))
there_back (m ∷ ms) n h = by (is_of_tree m) refl h (there_back ms n)
  where
    first : is_of_tree m ≡ true → Contains (m ∷ of_tree ms) n → (Contains (of_tree ms) n → IsTreeNode ms n) → IsTreeNode (m ∷ ms) n
    first e (zero, l, is) rest = record { there = (0, omega arith, is); of_tree = ap is_of_tree (sym is) ∙ e }
    first e (suc k, l, is) rest = later_node m ms n (rest (k, omega arith, is))

    by : (b : Bool) → is_of_tree m ≡ b → Contains (cond b (m ∷ of_tree ms) (of_tree ms)) n → (Contains (of_tree ms) n → IsTreeNode ms n) → IsTreeNode (m ∷ ms) n
    by true e g rest = first e g rest
    by false e g rest = later_node m ms n (rest g)

other_node : (a n : Node) → (a ≡ n → ⊥) → node_eq a n ≡ false
other_node a n never = by (node_eq a n) refl
  where
    by : (b : Bool) → node_eq a n ≡ b → node_eq a n ≡ false
    by true e = absurd (never ((node_eq-Decides a n).0 e))
    by false e = e

-- the part is the same
same_at : (a : Node) → is_of_tree a ≡ true → (nodes : List Node) → list_any (node_eq a) (of_tree nodes) ≡ list_any (node_eq a) nodes
same_at a h [] = refl
same_at a h (n ∷ ns) = by (is_of_tree n) refl (same_at a h ns)
  where
    by : (b : Bool) → is_of_tree n ≡ b → list_any (node_eq a) (of_tree ns) ≡ list_any (node_eq a) ns → list_any (node_eq a) (cond b (n ∷ of_tree ns) (of_tree ns)) ≡ (node_eq a n || list_any (node_eq a) ns)
    by true e rest = ap (λ (b : Bool). node_eq a n || b) rest
    by false e rest = rest ∙ sym (ap (λ (b : Bool). b || list_any (node_eq a) ns) (other_node a n (λ (same : a ≡ n). false≢true (sym e ∙ (ap is_of_tree (sym same) ∙ h)))))

pub same_part : (nodes : List Node) → part_of_nodes (of_tree nodes) ≡ part_of_nodes nodes
same_part nodes = λ i. record { symbol = λ k. same_at (node.Sym k) refl nodes i; choice = λ c. same_at (node.Choice c) refl nodes i }

-- ---- one fact a node

pub one_fact : (s : Scope) (a b : Fact) → TreeKind s a → TreeKind s b → a.node ≡ b.node → a ≡ b
one_fact s a b (Symbol j w e) (Symbol k x g) same = let at : j ≡ k = same_number (node.Sym j) (node.Sym k) (ap (λ (n : Node). Some n) (ap (λ (f : Fact). f.node) (sym e) ∙ (same ∙ ap (λ (f : Fact). f.node) g))) in
    e ∙ (ap (tree.symbol_fact s) at ∙ sym g)
one_fact s a b (Choice j w e) (Choice k x g) same = let at : j ≡ k = same_number (node.Choice j) (node.Choice k) (ap (λ (n : Node). Some n) (ap (λ (f : Fact). f.node) (sym e) ∙ (same ∙ ap (λ (f : Fact). f.node) g))) in
    e ∙ (ap (tree.choice_fact s) at ∙ sym g)
one_fact s a b (Symbol j w e) (Choice k x g) same = let wrong : node.Sym j ≡ node.Choice k = ap (λ (f : Fact). f.node) (sym e) ∙ (same ∙ ap (λ (f : Fact). f.node) g) in absurd (cc)
one_fact s a b (Choice j w e) (Symbol k x g) same = let wrong : node.Choice j ≡ node.Sym k = ap (λ (f : Fact). f.node) (sym e) ∙ (same ∙ ap (λ (f : Fact). f.node) g) in absurd (cc)

-- no undeclared names rise
none_rise : IsRising []
unfolding IsStrictlySortedBy
none_rise = tt

no_file : (file : ℕ) (n : Node) → is_of_tree n ≡ true → IsOfFile file n → ⊥
no_file file (node.Sym k) h of = of
no_file file (node.Choice k) h of = of
no_file file (node.Block f k) h of = false≢true h
no_file file (node.State f k turn) h of = false≢true h

node_tree : (t : Shape) (n : Node) → IsNodeOf t n → is_of_tree n ≡ true
node_tree t (node.Sym k) h = refl
node_tree t (node.Choice k) h = refl
node_tree t (node.Block f k) h = absurd h
node_tree t (node.State f k turn) h = absurd h

pub record PartLaws : Type 0 where
  pub named : FactsNameNodes
  pub known : SourcesAreKnown
  pub stand : TruthsStand
  pub part : NodesAreAPart

module _ (laws : PartLaws) (p : Problem) (q : Question) (t : Shape) (posed : IsPosed p) (is : p.basis ≡ OfTree t) (nodes : List Node) (needs : AreNeeds p q nodes)
    (known : AreKnown (facts_for p q) (nodes_for q.family p.basis ++ flat_map (roots_of p) q.wishes)) where
  abbrev s : Scope
  s = scope_of (shared p) q.family t

  -- the fact of a needed node of a tree is one of the tree's
  fact_of_tree : (n : Node) → is_of_tree n ≡ true → (f : Found (facts_for p q) n) → Contains (tree.facts_of (scope_of (shared p) q.family t)) f.fact
  fact_of_tree n h f = by (kind_of p q f.fact f.there)
    where
      by : Kind p q f.fact → Contains (tree.facts_of (scope_of (shared p) q.family t)) f.fact
      by (Tree r) = subst (λ (u : Shape). Contains (tree.facts_of (scope_of (shared p) q.family u)) f.fact) (same_tree r.shape t (sym r.is ∙ is)) r.there
      by (Name r) = let wrong : OfRules r.rules ≡ OfTree t = sym r.is ∙ is in absurd (cc)
      by (Source r) = absurd (no_file r.file n h (subst (IsOfFile r.file) f.node (fact_of_file laws.known p posed q f.fact r)))

  kind_at : (n : Node) → is_of_tree n ≡ true → (f : Found (facts_for p q) n) → TreeKind s f.fact
  kind_at n h f = tree_kind s f.fact (fact_of_tree n h f)

  node_within : (n : Node) → IsTreeNode nodes n → IsNodeOf t n
  node_within n h = by (found_at p q nodes needs known n h.there)
    where
      by : Found (facts_for p q) n → IsNodeOf t n
      by f = of_kind (kind_at n h.of_tree f)
        where
          of_kind : TreeKind s f.fact → IsNodeOf t n
          of_kind (Symbol k within e) = subst (IsNodeOf t) (ap (λ (g : Fact). g.node) (sym e) ∙ f.node) (place_within (length t.symbols) k within)
          of_kind (Choice k within e) = subst (IsNodeOf t) (ap (λ (g : Fact). g.node) (sym e) ∙ f.node) (place_within (length t.choices) k within)

  -- a fact of the tree at a needed node is needed
  needed_here : (fact : Fact) → Contains (tree.facts_of s) fact → (h : IsTreeNode nodes fact.node) → IsNeededFact p q nodes fact
  needed_here fact there h = let f = found_at p q nodes needs known fact.node h.there in
      subst (IsNeededFact p q nodes) (one_fact s f.fact fact (kind_at fact.node h.of_tree f) (tree_kind s fact there) f.node) (fact_at p q nodes needs known fact.node h.there)

  pub are_closed : AreClosed s (of_tree nodes)
  are_closed = record {
    within = all_by (IsNodeOf t) (of_tree nodes) (λ n h. node_within n (there_back nodes n h));
    names = λ fact there h. all_by (Contains (of_tree nodes)) fact.names (λ n has. tree_there nodes n
        (node_tree t n (All-contains (IsNodeOf t) fact.names n (All-contains (closed.NamesNodes t) (tree.facts_of s) fact (laws.named s (well_made p t posed is)) there) has))
        (named_needed p q nodes needs known fact (needed_here fact there (there_back nodes fact.node h)) n has));
  }

  meets_on : (v : Item → Bool) → MeetsAll v (needed_facts p q nodes) → MeetsOn s (of_tree nodes) v
  meets_on v met fact there h = (needed_here fact there (there_back nodes fact.node h)).meets v met

  rising_in : IsRising s.undeclared
  rising_in = by q.family
    where
      by : (f : Family) → IsRising (undeclared_in (shared p) f)
      by family.Code = none_rise
      by family.Kconfig = posed.numbered.rising
      by family.Whole = none_rise

  -- the truths stand for a configuration, and the needed nodes are a closed part
  pub stand_at : (v : Item → Bool) → MeetsAll v (needed_facts p q nodes) → SomeConfiguration s (of_tree nodes) v
  stand_at v met = laws.stand s (well_made p t posed is) rising_in (of_tree nodes) v are_closed (meets_on v met)

  pub closed_part : IsClosedPart t (part_of_nodes nodes)
  closed_part = subst (IsClosedPart t) (same_part nodes) (laws.part s (well_made p t posed is) (of_tree nodes) are_closed)

-- What the facts of a tree mention is listed by the facts of needed nodes; and so is what rules mention.
use Rattle.std.proofs.Common.{◌≡◌, ℕ, ◌<◌, ◌==◌, suc, Bool, true, false, ◌||◌, List, [], ◌∷◌, ◌++◌, map, length, Option, None, Some, refl, ap, sym, subst, ◌∙◌, ◌⊎◌, inl, inr, arith}
use Rattle.std.specs.List.{Contains, flat_map}
use Rattle.std.proofs.lemmas.Bool.{false≢true}
use Rattle.std.proofs.lemmas.Bool.Decides.{nat_tests}
use Rattle.std.proofs.lemmas.List.Elements.{All-contains, Contains-append_left}
use Rattle.ut_logic.specs.declared.item.Item.{Item}
use Rattle.ut_logic.specs.declared.item.Item.TheVariants as item
use Rattle.ut_logic.specs.declared.node.Node.{Node}
use Rattle.ut_logic.specs.declared.node.Node.TheVariants as node
use Rattle.ut_logic.specs.declared.facts.Definition.{Definition}
use Rattle.ut_logic.specs.declared.facts.Fact.{Fact}
use Rattle.ut_logic.specs.declared.formula.Formula.{Formula}
use Rattle.ut_logic.specs.declared.facts.Rules.{Rules}
use Rattle.ut_logic.specs.Assign.{is_in}
use Rattle.ut_logic.specs.Owners.{owner}
use Rattle.ut_logic.specs.Truth.{mentioned, together}
use Rattle.clausify.specs.Order.{AreListed, AreOver, items_of, mentioned_of}
use Rattle.model_slice.specs.Named.{AreKnown}
use Rattle.kconf_tree.proofs.GraphOrders.{contains_map}
use Rattle.kconf_tree.specs.References.{node_by, node_of, references_of}
use Rattle.kconf_tree.specs.Shape.{Shape, choice_at, symbol_at}
use Rattle.kconf_tree.specs.WellMade.{is_among}
use Rattle.kconf_constr.specs.Closed.{Fits, IsClosed, IsReached, Reaches}
use Rattle.kconf_constr.specs.FactsOf as tree
use Rattle.kconf_constr.specs.Scope.{Scope}
use Rattle.ut_case.specs.declared.question.Family.{Family}
use Rattle.ut_case.specs.declared.question.Family.TheVariants as family
use Rattle.ut_case.specs.Facts.{basis_nodes, basis_rules, facts_for, nodes_for, places, rules_for}
use Rattle.ut_case.specs.Needs.{AreNeeds, needed_facts, roots_of}
use Rattle.ut_case.specs.Numbering.{shared}
use Rattle.ut_case.specs.Posed.{AreRules, IsBasis, IsPosed}
use Rattle.ut_case.specs.Problem.{Basis, OfTree, OfRules, Problem}
use Rattle.ut_case.specs.Questions.{Question}
use Rattle.ut_case.specs.StartFormulas.{scope_of}
use Rattle.case_laws.proofs.FactKinds.{Kind, Tree, Name, Source, IsOfTree, kind_of}
use Rattle.case_laws.proofs.FileNodes.{IsOfFile, fact_of_file}
use Rattle.case_laws.proofs.Found.{Found, given_by}
use Rattle.case_laws.proofs.ItemKinds.{IsNeededFact, needed_fact}
use Rattle.case_laws.proofs.Known.{contains_place}
use Rattle.case_laws.proofs.Lower.{FactsAreClosed, SourcesAreKnown}
use Rattle.case_laws.proofs.MentionedSources.{MentionLaws, fact_at, found_at, in_either, named_needed, owned_listed, source_mentions}
use Rattle.case_laws.proofs.OwnListed.{OwnFits, TreeKind, Symbol, Choice, tree_kind, same_number}
use Rattle.case_laws.proofs.TreeCases.{well_made}

-- ---- numbers in lists

-- a number that a list has
has_number : (ks : List ℕ) (k : ℕ) → is_among ks k ≡ true → Contains ks k
has_number [] k h = absurd (false≢true h)
has_number (j ∷ ks) k h = by (j == k) refl h (has_number ks k)
  where
    equal : (a b : ℕ) → (a == b) ≡ true → a ≡ b
    equal a b e = grind (arith, nat_tests)

    by : (b : Bool) → (j == k) ≡ b → (b || is_among ks k) ≡ true → (is_among ks k ≡ true → Contains ks k) → Contains (j ∷ ks) k
    by true e g rest = (0, omega arith, equal j k e)
    by false e g rest = let r = rest g in (suc r.0, omega (arith, r.1), r.2)

-- a fact of a tree defines nothing
tree_defines : (s : Scope) (fact : Fact) → TreeKind s fact → fact.defines ≡ []
tree_defines s fact (Symbol k within e) = ap (λ (f : Fact). f.defines) e
tree_defines s fact (Choice k within e) = ap (λ (f : Fact). f.defines) e

-- what it mentions, its formulas mention
of_holds : (f : Fact) → f.defines ≡ [] → (i : Item) → is_in (mentioned_of f) i ≡ true → is_in (together (map mentioned f.holds)) i ≡ true
of_holds f none i m = elim (in_either (together (map mentioned f.holds)) (together (map (λ (d : Definition). d.item ∷ mentioned d.formula) f.defines)) i m) [
  | inl h ↦ h
  | inr h ↦ absurd (false≢true (subst (λ (ds : List Definition). is_in (together (map (λ (d : Definition). d.item ∷ mentioned d.formula) ds)) i ≡ true) none h))
]

module _ (laws : MentionLaws) (closed : FactsAreClosed) (sources : SourcesAreKnown) (p : Problem) (q : Question) (posed : IsPosed p) (nodes : List Node) (needs : AreNeeds p q nodes)
    (known : AreKnown (facts_for p q) (nodes_for q.family p.basis ++ flat_map (roots_of p) q.wishes)) where
  -- the fact of a needed choice is that of the tree
  members_needed : (t : Shape) → p.basis ≡ OfTree t → (c k : ℕ) → (symbol_at t k).member_of ≡ Some c → (h : Contains nodes (node.Choice c)) → Contains nodes (node.Sym k)
  members_needed t is c k member h = by (kind_of p q f.fact f.there)
    where
      f : Found (facts_for p q) (node.Choice c)
      f = found_at p q nodes needs known (node.Choice c) h

      needed : IsNeededFact p q nodes f.fact
      needed = fact_at p q nodes needs known (node.Choice c) h

      tree_of : Shape → Basis → Shape
      tree_of d (OfTree u) = u
      tree_of d (OfRules r) = d

      of_choice : (u : Shape) → OfTree u ≡ OfTree t → (i : ℕ) → f.fact ≡ tree.choice_fact (scope_of (shared p) q.family u) i → Contains nodes (node.Sym k)
      of_choice u same i e = named_needed p q nodes needs known f.fact needed (node.Sym k) (subst (λ (g : Fact). Contains g.names (node.Sym k)) (sym e)
          (Contains-append_left (map (λ j. node.Sym j) (choice_at u i).members) (references_of u (node.Choice i)) (node.Sym k) (contains_map (λ j. node.Sym j) (choice_at u i).members k
          (has_number (choice_at u i).members k ((well_made p u posed (is ∙ sym same)).listed i k
          (ap (λ (x : Shape). (symbol_at x k).member_of) (ap (tree_of t) same) ∙ (member ∙ ap (λ (n : ℕ). Some n) (sym at))))))))
        where
          at : i ≡ c
          at = same_number (node.Choice i) (node.Choice c) (ap (λ (n : Node). Some n) (ap (λ (g : Fact). g.node) (sym e) ∙ f.node))

      by : Kind p q f.fact → Contains nodes (node.Sym k)
      by (Tree h) = of_kind (tree_kind (scope_of (shared p) q.family h.shape) f.fact h.there)
        where
          of_kind : TreeKind (scope_of (shared p) q.family h.shape) f.fact → Contains nodes (node.Sym k)
          of_kind (Symbol j within e) = let wrong : node.Sym j ≡ node.Choice c = ap (λ (g : Fact). g.node) (sym e) ∙ f.node in absurd (cc)
          of_kind (Choice j within e) = of_choice h.shape (sym h.is ∙ is) j e
      by (Name h) = let wrong : node.Sym h.number ≡ node.Choice c = ap (λ (g : Fact). g.node) (sym h.same) ∙ f.node in absurd (cc)
      by (Source h) = absurd (subst (IsOfFile h.file) f.node (fact_of_file sources p posed q f.fact h))

  -- the owner of an item that is reached
  reached_symbol : (t : Shape) → p.basis ≡ OfTree t → (fact : Fact) → IsNeededFact p q nodes fact → (k : ℕ) → Reaches fact (node.Sym k) ⊎ Contains fact.names (node_of t k) → Contains nodes (node.Sym k)
  reached_symbol t is fact needed k (inl (inl e)) = subst (Contains nodes) e needed.needed
  reached_symbol t is fact needed k (inl (inr h)) = named_needed p q nodes needs known fact needed (node.Sym k) h
  reached_symbol t is fact needed k (inr h) = by (symbol_at t k).member_of refl (named_needed p q nodes needs known fact needed (node_of t k) h)
    where
      by : (o : Option ℕ) → (symbol_at t k).member_of ≡ o → Contains nodes (node_by k o) → Contains nodes (node.Sym k)
      by None e g = g
      by (Some c) e g = members_needed t is c k e g

  module _ (t : Shape) (is : p.basis ≡ OfTree t) (fact : Fact) (needed : IsNeededFact p q nodes fact) where
    own : (n : Node) → Contains nodes n → (i : Item) → owner i ≡ Some n → OwnFits (OfTree t) i → is_in (items_of (needed_facts p q nodes)) i ≡ true
    own n h i o fit = owned_listed laws p q nodes needs known n h i o (subst (λ (b : Basis). OwnFits b i) (sym is) fit)

    beside : (i : Item) → is_in fact.items i ≡ true → is_in (items_of (needed_facts p q nodes)) i ≡ true
    beside i h = needed.gives (λ (f : Fact). f.items) i h

    of_reached : (i : Item) → Fits (scope_of (shared p) q.family t) i → IsReached t fact i → is_in (items_of (needed_facts p q nodes)) i ≡ true
    of_reached (item.SymY k) fit r = own (node.Sym k) (reached_symbol t is fact needed k r) (item.SymY k) refl fit
    of_reached (item.SymM k) fit r = own (node.Sym k) (reached_symbol t is fact needed k r) (item.SymM k) refl fit
    of_reached (item.Undeclared k) fit r = beside (item.Undeclared k) r
    of_reached (item.ModeY c) fit r = own (node.Choice c) (subst (Contains nodes) r needed.needed) (item.ModeY c) refl (t, refl)
    of_reached (item.ModeM c) fit r = own (node.Choice c) (subst (Contains nodes) r needed.needed) (item.ModeM c) refl (t, refl, fit)
    of_reached (item.Outer k) fit r = beside (item.Outer k) r
    of_reached (item.Same k j) fit r = absurd fit
    of_reached (item.Below k j) fit r = absurd fit
    of_reached (item.StartD file n) fit r = absurd fit
    of_reached (item.StartT file n) fit r = absurd fit
    of_reached (item.Truth file n) fit r = absurd fit
    of_reached (item.Piece file k) fit r = absurd fit
    of_reached (item.Line file k) fit r = absurd fit
    of_reached (item.Block file k) fit r = absurd fit
    of_reached (item.StateD file n turn) fit r = absurd fit
    of_reached (item.StateT file n turn) fit r = absurd fit

  tree_mentions : (fact : Fact) (h : IsOfTree p q.family fact) → IsNeededFact p q nodes fact → (i : Item) → is_in (mentioned_of fact) i ≡ true → is_in (items_of (needed_facts p q nodes)) i ≡ true
  tree_mentions fact h needed i m =
      let s = scope_of (shared p) q.family h.shape in
      let r = All-contains (IsClosed s) (tree.facts_of s) fact (closed s (well_made p h.shape posed h.is)) h.there i (of_holds fact (tree_defines s fact (tree_kind s fact h.there)) i m) in
      of_reached h.shape h.is fact needed i r.0 r.1

  fact_mentions : (fact : Fact) → Kind p q fact → IsNeededFact p q nodes fact → (i : Item) → is_in (mentioned_of fact) i ≡ true → is_in (items_of (needed_facts p q nodes)) i ≡ true
  fact_mentions fact (Tree h) needed i m = tree_mentions fact h needed i m
  fact_mentions fact (Name h) needed i m = absurd (false≢true (subst (λ (f : Fact). is_in (mentioned_of f) i ≡ true) h.same m))
  fact_mentions fact (Source h) needed i m = source_mentions laws p q nodes needs known fact h needed i m

  -- all that needed facts mention
  pub facts_listed : AreListed (needed_facts p q nodes)
  facts_listed i m = let g = given_by mentioned_of i (facts_for p q) nodes m in
      fact_mentions g.of.found.fact (kind_of p q g.of.found.fact g.of.found.there) (needed_fact p q nodes g.node g.needed g.of.found) i g.of.item

  -- ---- rules

  -- a needed name
  pub name_listed : (r : Rules) → p.basis ≡ OfRules r → (k : ℕ) → k < length r.names → Contains nodes (node.Sym k) → is_in (items_of (needed_facts p q nodes)) (item.SymY k) ≡ true
  name_listed r is k lt h = owned_listed laws p q nodes needs known (node.Sym k) h (item.SymY k) refl (subst (λ (b : Basis). OwnFits b (item.SymY k)) (sym is) lt)

  -- every name of a model text is needed
  pub name_needed : (q.family ≡ family.Code → ⊥) → (r : Rules) → p.basis ≡ OfRules r → (k : ℕ) → k < length r.names → Contains nodes (node.Sym k)
  name_needed asks r is k lt = All-contains (Contains nodes) (nodes_for q.family p.basis ++ flat_map (roots_of p) q.wishes) (node.Sym k) needs.least.rooted
      (Contains-append_left (nodes_for q.family p.basis) (flat_map (roots_of p) q.wishes) (node.Sym k) (by q.family refl))
    where
      here : Contains (basis_nodes p.basis) (node.Sym k)
      here = subst (λ (b : Basis). Contains (basis_nodes b) (node.Sym k)) (sym is) (contains_map (λ (j : ℕ). node.Sym j) (places r.names) k (contains_place (length r.names) k lt))

      by : (f : Family) → q.family ≡ f → Contains (nodes_for f p.basis) (node.Sym k)
      by family.Code e = absurd (asks e)
      by family.Kconfig e = here
      by family.Whole e = here

  -- a formula that mentions an item
  said_by : (fs : List Formula) (i : Item) → is_in (together (map mentioned fs)) i ≡ true → (f : Formula) × Contains fs f × (is_in (mentioned f) i ≡ true)
  said_by [] i h = absurd (false≢true h)
  said_by (f ∷ fs) i h = elim (in_either (mentioned f) (together (map mentioned fs)) i h) [
    | inl m ↦ (f, (0, omega arith, refl), m)
    | inr m ↦ let r = said_by fs i m in (r.0, (suc r.1.0, omega (arith, r.1.1), r.1.2), r.2)
  ]

  rules_over : (q.family ≡ family.Code → ⊥) → (b : Basis) → p.basis ≡ b → (i : Item) → is_in (together (map mentioned (basis_rules b))) i ≡ true → is_in (items_of (needed_facts p q nodes)) i ≡ true
  rules_over asks (OfTree t) is i m = absurd (false≢true m)
  rules_over asks (OfRules r) is i m =
      let f = said_by r.holds i m in
      let rules : AreRules r = subst IsBasis is posed.made in
      let w = rules.within f.0 i f.1 f.2 in
      subst (λ (j : Item). is_in (items_of (needed_facts p q nodes)) j ≡ true) (sym w.1) (name_listed r is w.0 w.2 (name_needed asks r is w.0 w.2))

  -- all that rules mention
  pub rules_listed : AreOver (items_of (needed_facts p q nodes)) (rules_for q.family p.basis)
  rules_listed = by q.family refl
    where
      by : (f : Family) → q.family ≡ f → (i : Item) → is_in (together (map mentioned (rules_for f p.basis))) i ≡ true → is_in (items_of (needed_facts p q nodes)) i ≡ true
      by family.Code e i m = absurd (false≢true m)
      by family.Kconfig e i m = rules_over (λ h. absurd (cc)) p.basis refl i m
      by family.Whole e i m = rules_over (λ h. absurd (cc)) p.basis refl i m

-- Truths that meet the facts of needed nodes and agree on free items agree on blocks and macro states too: each of these is
-- defined from free items and from items of nodes that stand lower.
use Rattle.std.proofs.Common.{◌≡◌, ℕ, ◌<◌, zero, suc, Bool, true, false, List, [], ◌∷◌, ◌++◌, map, Some, refl, ap, sym, subst, ◌∙◌, ◌⊎◌, inl, inr, arith}
use Rattle.std.specs.List.{Contains, flat_map}
use Rattle.std.proofs.lemmas.List.Elements.{All-contains}
use Rattle.ut_logic.specs.declared.item.Item.{Item}
use Rattle.ut_logic.specs.declared.item.Item.TheVariants as item
use Rattle.ut_logic.specs.declared.node.Node.{Node}
use Rattle.ut_logic.specs.declared.node.Node.TheVariants as node
use Rattle.ut_logic.specs.declared.facts.Definition.{Definition}
use Rattle.ut_logic.specs.declared.facts.Fact.{Fact}
use Rattle.ut_logic.specs.Assign.{is_in}
use Rattle.ut_logic.specs.Facts.{IsDefined, MeetsAll}
use Rattle.ut_logic.specs.Owners.{owner}
use Rattle.ut_logic.specs.Truth.{mentioned, together}
use Rattle.ut_logic.proofs.MentionLaws.{truth-agree}
use Rattle.clausify.specs.Order.{AreListed, items_of, mentioned_of, outers_of}
use Rattle.model_slice.specs.Named.{AreKnown}
use Rattle.model_slice.proofs.TestLaws.{has-contains}
use Rattle.cpp_blocks.specs.Mentions as mentions
use Rattle.cpp_blocks.specs.Nodes.{IsBelow, IsListed, IsListedBy, IsOrderly, mentioned_in, rank_of}
use Rattle.cpp_directives.specs.declared.directive.Directive.{Directive}
use Rattle.ut_case.specs.BuiltFormulas.{built_of}
use Rattle.ut_case.specs.Facts.{facts_for, nodes_for, source_facts}
use Rattle.ut_case.specs.Laws.{FreeItemsDecide, SameFree, is_of_source}
use Rattle.ut_case.specs.Needs.{AreItems, AreNeeds, needed_facts, roots_of, wish_of}
use Rattle.ut_case.specs.Numbering.{shared}
use Rattle.ut_case.specs.Posed.{IsPosed}
use Rattle.ut_case.specs.Problem.{Problem, directives_at, source_at}
use Rattle.ut_case.specs.Questions.{Question}
use Rattle.ut_case.specs.StartFormulas.{scope_of, starts_from}
use Rattle.case_laws.specs.Listed.{QuestionsAreKnown, QuestionsAreListed}
use Rattle.case_laws.proofs.Basics.{back_in, front_in}
use Rattle.case_laws.proofs.CaseFacts.{formed_at}
use Rattle.case_laws.proofs.FactKinds.{Kind, Tree, Name, Source, IsOfSource, kind_of}
use Rattle.case_laws.proofs.FileNodes.{IsOfFile, fact_of_file}
use Rattle.case_laws.proofs.Found.{Found}
use Rattle.case_laws.proofs.ItemKinds.{IsNeededFact}
use Rattle.case_laws.proofs.ItemsOf.{ListLaws, item_is}
use Rattle.case_laws.proofs.Lower.{SourcesAreListed, SourcesAreOrderly}
use Rattle.case_laws.proofs.MentionedSources.{fact_at, found_at, named_needed}
use Rattle.case_laws.proofs.OwnListed.{TreeKind, Symbol, Choice, source_listed, tree_kind}
use Rattle.case_laws.proofs.StartsListed.{built_listed, starts_listed}

-- ---- what a definition mentions

in_formulas : (ds : List Definition) (d : Definition) → Contains ds d → (i : Item) → is_in (mentioned d.formula) i ≡ true → is_in (flat_map (λ (e : Definition). mentioned e.formula) ds) i ≡ true
in_formulas [] d h i m = absurd (omega (arith, h.0, h.1))
in_formulas (e ∷ ds) d (zero, l, is) i m = front_in (mentioned e.formula) (flat_map (λ (x : Definition). mentioned x.formula) ds) i (subst (λ (x : Definition). is_in (mentioned x.formula) i ≡ true) (sym is) m)
in_formulas (e ∷ ds) d (suc k, l, is) i m = back_in (mentioned e.formula) (flat_map (λ (x : Definition). mentioned x.formula) ds) i (in_formulas ds d (k, omega arith, is) i m)

in_definitions : (ds : List Definition) (d : Definition) → Contains ds d → (i : Item) → is_in (mentioned d.formula) i ≡ true → is_in (together (map (λ (e : Definition). e.item ∷ mentioned e.formula) ds)) i ≡ true
in_definitions [] d h i m = absurd (omega (arith, h.0, h.1))
in_definitions (e ∷ ds) d (zero, l, is) i m = front_in (e.item ∷ mentioned e.formula) (together (map (λ (x : Definition). x.item ∷ mentioned x.formula) ds)) i
    (back_in (e.item ∷ []) (mentioned e.formula) i (subst (λ (x : Definition). is_in (mentioned x.formula) i ≡ true) (sym is) m))
in_definitions (e ∷ ds) d (suc k, l, is) i m = back_in (e.item ∷ mentioned e.formula) (together (map (λ (x : Definition). x.item ∷ mentioned x.formula) ds)) i (in_definitions ds d (k, omega arith, is) i m)

-- ---- nodes of sources

one_file : (a b : ℕ) (n : Node) → IsOfFile a n → IsOfFile b n → a ≡ b
one_file a b (node.Sym k) h g = absurd h
one_file a b (node.Choice k) h g = absurd h
one_file a b (node.Block f k) h g = sym h ∙ g
one_file a b (node.State f k turn) h g = sym h ∙ g

-- a node that is named lower is one of the basis, or one of the same source
lower_node : (file : ℕ) (ds : List Directive) (rank : ℕ) (m : Node) → IsBelow file ds rank m → (is_of_source (Some m) ≡ false) ⊎ (IsOfFile file m × (rank_of ds m < rank))
lower_node file ds rank (node.Sym k) low = inl refl
lower_node file ds rank (node.Choice k) low = inl refl
lower_node file ds rank (node.Block f b) low = inr (low.0, low.2)
lower_node file ds rank (node.State f k turn) low = inr (low.0, low.3)

pub record LayerLaws : Type 0 where
  pub lists : ListLaws
  pub listed : SourcesAreListed
  pub orderly : SourcesAreOrderly

module _ (laws : LayerLaws) (p : Problem) (q : Question) (posed : IsPosed p) (nodes : List Node) (needs : AreNeeds p q nodes)
    (known : AreKnown (facts_for p q) (nodes_for q.family p.basis ++ flat_map (roots_of p) q.wishes)) where
  -- the fact of a node of a source is one of that source's
  pub source_at_node : (file : ℕ) (n : Node) → IsOfFile file n → (f : Found (facts_for p q) n) → (src : IsOfSource p q f.fact) × (src.file ≡ file)
  source_at_node file n of f = by (kind_of p q f.fact f.there)
    where
      by : Kind p q f.fact → (src : IsOfSource p q f.fact) × (src.file ≡ file)
      by (Tree h) = of_kind (tree_kind (scope_of (shared p) q.family h.shape) f.fact h.there)
        where
          of_kind : TreeKind (scope_of (shared p) q.family h.shape) f.fact → (src : IsOfSource p q f.fact) × (src.file ≡ file)
          of_kind (Symbol k within e) = absurd (subst (IsOfFile file) (sym f.node ∙ ap (λ (g : Fact). g.node) e) of)
          of_kind (Choice k within e) = absurd (subst (IsOfFile file) (sym f.node ∙ ap (λ (g : Fact). g.node) e) of)
      by (Name h) = absurd (subst (IsOfFile file) (sym f.node ∙ ap (λ (g : Fact). g.node) h.same) of)
      by (Source h) = (h, one_file h.file file n (subst (IsOfFile h.file) f.node (fact_of_file laws.lists.known p posed q f.fact h)) of)

  module _ (items : List Item) (named : AreItems p q nodes items) (listed : AreListed (needed_facts p q nodes)) (v u : Item → Bool) (met_v : MeetsAll v (needed_facts p q nodes)) (met_u : MeetsAll u (needed_facts p q nodes))
      (free : SameFree items v u) where
    listed_there : (i : Item) → is_in (items_of (needed_facts p q nodes)) i ≡ true → is_in items i ≡ true
    listed_there i h = named.exact i ∙ front_in (items_of (needed_facts p q nodes)) (outers_of (wish_of p q)) i h

    -- where the items of lower nodes agree
    module _ (n : Node) (fact : Fact) (at : fact.node ≡ n) (needed : IsNeededFact p q nodes fact) (src : IsOfSource p q fact)
        (lower : (m : Node) → IsOfFile src.file m → rank_of (directives_at p src.file) m < rank_of (directives_at p src.file) n → Contains nodes m → (j : Item) → owner j ≡ Some m → v j ≡ u j) where
      its : IsListed fact
      its = source_listed laws.lists.owns laws.listed p q fact src

      order : IsOrderly src.file (directives_at p src.file) fact
      order = All-contains (IsOrderly src.file (directives_at p src.file)) (source_facts (shared p) q.family src.file (source_at p src.file)) fact
          (laws.orderly src.file (directives_at p src.file) (starts_from (shared p) q.family src.file 0 (mentions.names_of (directives_at p src.file))) (built_of (shared p) q.family (source_at p src.file).paths)
          (formed_at p posed src.file) (starts_listed laws.lists.owns (shared p) q.family src.file 0 (mentions.names_of (directives_at p src.file))) (built_listed (shared p) q.family (source_at p src.file).paths)) src.there

      agree : (d : Definition) → Contains fact.defines d → (j : Item) → is_in (mentioned d.formula) j ≡ true → v j ≡ u j
      agree d there j m = by (its.mentions j (back_in (mentioned_in fact.holds) (flat_map (λ (e : Definition). mentioned e.formula) fact.defines) j (in_formulas fact.defines d there j m)))
        where
          in_items : is_in items j ≡ true
          in_items = listed_there j (listed j (needed.gives mentioned_of j (back_in (together (map mentioned fact.holds)) (together (map (λ (e : Definition). e.item ∷ mentioned e.formula) fact.defines)) j (in_definitions fact.defines d there j m))))

          by : IsListedBy fact.names fact.items j → v j ≡ u j
          by (inl r) = free j in_items (ap is_of_source r.0)
          by (inr r) = of_lower (lower_node src.file (directives_at p src.file) (rank_of (directives_at p src.file) fact.node) r.0 (All-contains (IsBelow src.file (directives_at p src.file) (rank_of (directives_at p src.file) fact.node)) fact.names r.0 order has))
            where
              has : Contains fact.names r.0
              has = has-contains fact.names r.0 r.2

              of_lower : (is_of_source (Some r.0) ≡ false) ⊎ (IsOfFile src.file r.0 × (rank_of (directives_at p src.file) r.0 < rank_of (directives_at p src.file) fact.node)) → v j ≡ u j
              of_lower (inl tree) = free j in_items (ap is_of_source r.1 ∙ tree)
              of_lower (inr low) = lower r.0 low.0 (subst (λ (m : Node). rank_of (directives_at p src.file) r.0 < rank_of (directives_at p src.file) m) at low.1) (named_needed p q nodes needs known fact needed r.0 has) j r.1

      one : (i : Item) → owner i ≡ Some n → v i ≡ u i
      one i o = let r = its.defined i (o ∙ ap (λ (m : Node). Some m) (sym at)) in
          ap v (sym r.2) ∙ (All-contains (IsDefined v) fact.defines r.0 (needed.meets v met_v).defined r.1 ∙ (truth-agree v u r.0.formula (agree r.0 r.1)
          ∙ (sym (All-contains (IsDefined u) fact.defines r.0 (needed.meets u met_u).defined r.1) ∙ ap u r.2)))

    below : (k : ℕ) (n : Node) (file : ℕ) → IsOfFile file n → rank_of (directives_at p file) n < k → Contains nodes n → (i : Item) → owner i ≡ Some n → v i ≡ u i
    below zero n file of less h i o = absurd (omega (arith, less))
    below (suc k) n file of less h i o =
        let f = found_at p q nodes needs known n h in
        let src = source_at_node file n of f in
        one n f.fact f.node (fact_at p q nodes needs known n h) src.0
        (λ m same low there j e. below k m src.0.file same (rank_lower (subst (λ (g : ℕ). rank_of (directives_at p g) n < suc k) (sym src.1) less) low) there j e) i o
      where
        rank_lower : {a b : ℕ} → b < suc k → a < b → a < k
        rank_lower h g = omega (arith, h, g)

    own : (file : ℕ) (n : Node) → IsOfFile file n → Contains nodes n → (i : Item) → owner i ≡ Some n → v i ≡ u i
    own file n of h i o = below (suc (rank_of (directives_at p file) n)) n file of (omega arith) h i o

    pub decided : (i : Item) → is_in items i ≡ true → v i ≡ u i
    decided (item.SymY k) m = free (item.SymY k) m refl
    decided (item.SymM k) m = free (item.SymM k) m refl
    decided (item.Undeclared k) m = free (item.Undeclared k) m refl
    decided (item.ModeY k) m = free (item.ModeY k) m refl
    decided (item.ModeM k) m = free (item.ModeM k) m refl
    decided (item.Outer k) m = free (item.Outer k) m refl
    decided (item.Same k j) m = free (item.Same k j) m refl
    decided (item.Below k j) m = free (item.Below k j) m refl
    decided (item.StartD file n) m = free (item.StartD file n) m refl
    decided (item.StartT file n) m = free (item.StartT file n) m refl
    decided (item.Truth file n) m = free (item.Truth file n) m refl
    decided (item.Piece file k) m = free (item.Piece file k) m refl
    decided (item.Line file k) m = free (item.Line file k) m refl
    decided (item.Block file k) m = own file (node.Block file k) refl (item_is laws.lists p q nodes posed items named (item.Block file k) m) (item.Block file k) refl
    decided (item.StateD file n turn) m = own file (node.State file n turn) refl (item_is laws.lists p q nodes posed items named (item.StateD file n turn) m) (item.StateD file n turn) refl
    decided (item.StateT file n turn) m = own file (node.State file n turn) refl (item_is laws.lists p q nodes posed items named (item.StateT file n turn) m) (item.StateT file n turn) refl

pub items_decide : LayerLaws → QuestionsAreKnown → QuestionsAreListed → FreeItemsDecide
items_decide laws all lists p q nodes items v u askable needs named met_v met_u free =
    decided laws p q askable.posed nodes needs (all p q askable) items named (lists p q nodes askable needs).facts v u met_v met_u free

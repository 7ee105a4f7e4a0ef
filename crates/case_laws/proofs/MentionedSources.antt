-- What the facts of a question mention is listed by the facts of needed nodes.
use Rattle.std.proofs.Common.{◌≡◌, ℕ, ◌+◌, suc, Bool, true, false, ◌||◌, List, [], ◌∷◌, ◌++◌, map, All, Some, refl, ap, sym, subst, ◌∙◌, ◌⊎◌, inl, inr, arith}
use Rattle.std.specs.List.{Contains, flat_map}
use Rattle.std.proofs.lemmas.Bool.{false≢true}
use Rattle.std.proofs.lemmas.List.Elements.{All-contains}
use Rattle.std.proofs.lemmas.List.Folds.{list_any-append}
use Rattle.ut_logic.specs.declared.item.Item.{Item}
use Rattle.ut_logic.specs.declared.item.Item.TheVariants as item
use Rattle.ut_logic.specs.declared.node.Node.{Node}
use Rattle.ut_logic.specs.declared.facts.Definition.{Definition}
use Rattle.ut_logic.specs.declared.facts.Fact.{Fact}
use Rattle.ut_logic.specs.declared.formula.Formula.{Formula}
use Rattle.ut_logic.specs.Assign.{is_in}
use Rattle.ut_logic.specs.Item.{item_eq}
use Rattle.ut_logic.specs.ItemIdentity.{item_eq-Decides}
use Rattle.ut_logic.specs.Owners.{owner}
use Rattle.ut_logic.specs.Truth.{mentioned, together}
use Rattle.clausify.specs.Order.{items_of, mentioned_of}
use Rattle.model_slice.specs.Named.{AreKnown, names_of, nodes_of}
use Rattle.model_slice.proofs.TestLaws.{has-contains}
use Rattle.cpp_blocks.specs.declared.starts.StartOf.{StartOf}
use Rattle.cpp_blocks.specs.declared.starts.BuiltOf.{BuiltOf}
use Rattle.cpp_blocks.specs.Facts.{is_of_run}
use Rattle.cpp_blocks.specs.Given.{DefinesOwn, IsSaidByBuilt, IsSaidByStart, MentionsGiven}
use Rattle.cpp_blocks.specs.Mentions as mentions
use Rattle.cpp_blocks.specs.Nodes.{IsListed, IsListedBy, mentioned_by, mentioned_in}
use Rattle.ut_case.specs.BuiltFormulas.{built_of}
use Rattle.ut_case.specs.Facts.{facts_for, nodes_for, source_facts}
use Rattle.ut_case.specs.Items.{macro_at}
use Rattle.ut_case.specs.Needs.{AreNeeds, needed_facts, roots_of}
use Rattle.ut_case.specs.Numbering.{shared}
use Rattle.ut_case.specs.Problem.{Basis, Problem, directives_at, source_at}
use Rattle.ut_case.specs.Questions.{Question}
use Rattle.ut_case.specs.StartFormulas.{config_start_of, macro_start_of, starts_from, undeclared_in}
use Rattle.case_laws.proofs.Basics.{back_in, front_in}
use Rattle.case_laws.proofs.AllKnown.{all_by}
use Rattle.case_laws.proofs.FactKinds.{IsOfSource, kind_of}
use Rattle.case_laws.proofs.Found.{Found, found}
use Rattle.case_laws.proofs.ItemKinds.{IsNeededFact, needed_fact}
use Rattle.case_laws.proofs.Lower.{SourcesAreListed, SourcesDefineOwn, SourcesMentionGiven}
use Rattle.case_laws.proofs.OwnListed.{OwnFits, lists_own, source_listed}
use Rattle.case_laws.proofs.Said.{says_is}
use Rattle.case_laws.proofs.StartKinds.{BothSay, IsBasisItem, IsStartAt, StartKind, Free, Config, config_said, built_said, start_at, start_kind}
use Rattle.case_laws.proofs.StartsListed.{Owns}

-- ---- needed nodes have facts

module _ (p : Problem) (q : Question) (nodes : List Node) (needs : AreNeeds p q nodes) (known : AreKnown (facts_for p q) (nodes_for q.family p.basis ++ flat_map (roots_of p) q.wishes)) where
  pub have_facts : (n : Node) → Contains nodes n → Contains (nodes_of (facts_for p q)) n
  have_facts n h = All-contains (Contains (nodes_of (facts_for p q))) nodes n (needs.least.least (nodes_of (facts_for p q)) known.rooted
      (all_by (λ (m : Node). All (Contains (nodes_of (facts_for p q))) (names_of (facts_for p q) m)) (nodes_of (facts_for p q)) (λ m there. known.named m))) h

  pub found_at : (n : Node) → Contains nodes n → Found (facts_for p q) n
  found_at n h = found (facts_for p q) n (have_facts n h)

  pub fact_at : (n : Node) (h : Contains nodes n) → IsNeededFact p q nodes (found_at n h).fact
  fact_at n h = needed_fact p q nodes n h (found_at n h)

  -- what a needed fact names is needed
  pub named_needed : (fact : Fact) → IsNeededFact p q nodes fact → (n : Node) → Contains fact.names n → Contains nodes n
  named_needed fact needed n h = All-contains (Contains nodes) (names_of (facts_for p q) fact.node) n
      (All-contains (λ (m : Node). All (Contains nodes) (names_of (facts_for p q) m)) nodes fact.node needs.least.closed needed.needed) (subst (λ (ns : List Node). Contains ns n) (sym needed.names) h)

-- ---- items that are mentioned

-- it is in one of both lists
pub in_either : (xs ys : List Item) (i : Item) → is_in (xs ++ ys) i ≡ true → (is_in xs i ≡ true) ⊎ (is_in ys i ≡ true)
in_either xs ys i h = by (is_in xs i) refl (sym (list_any-append (λ x. item_eq x i) xs ys) ∙ h)
  where
    by : (b : Bool) → is_in xs i ≡ b → (b || is_in ys i) ≡ true → (is_in xs i ≡ true) ⊎ (is_in ys i ≡ true)
    by true e g = inl e
    by false e g = inr g

-- both ways of joining lists
same_join : (fs : List Formula) → together (map mentioned fs) ≡ mentioned_in fs
same_join [] = refl
same_join (f ∷ fs) = ap (λ (xs : List Item). mentioned f ++ xs) (same_join fs)

-- the item that a definition gives
pub record IsGivenBy (ds : List Definition) (i : Item) : Type 0 where
  pub definition : Definition
  pub there : Contains ds definition
  pub is : definition.item ≡ i

later_given : (d : Definition) (ds : List Definition) (i : Item) → IsGivenBy ds i → IsGivenBy (d ∷ ds) i
later_given d ds i r = record { definition = r.definition; there = (suc r.there.0, omega (arith, r.there.1), r.there.2); is = r.is }

-- what definitions mention is given by one of them, or mentioned by a formula
of_definitions : (ds : List Definition) (i : Item) → is_in (together (map (λ (d : Definition). d.item ∷ mentioned d.formula) ds)) i ≡ true → IsGivenBy ds i ⊎ (is_in (flat_map (λ (d : Definition). mentioned d.formula) ds) i ≡ true)
of_definitions [] i h = absurd (false≢true h)
of_definitions (d ∷ ds) i h = elim (in_either (d.item ∷ mentioned d.formula) (together (map (λ (e : Definition). e.item ∷ mentioned e.formula) ds)) i h) [
  | inl m ↦ by (item_eq d.item i) refl m
  | inr m ↦ elim (of_definitions ds i m) [
    | inl r ↦ inl (later_given d ds i r)
    | inr r ↦ inr (back_in (mentioned d.formula) (flat_map (λ (e : Definition). mentioned e.formula) ds) i r)
  ]
]
  where
    by : (b : Bool) → item_eq d.item i ≡ b → (b || is_in (mentioned d.formula) i) ≡ true → IsGivenBy (d ∷ ds) i ⊎ (is_in (flat_map (λ (e : Definition). mentioned e.formula) (d ∷ ds)) i ≡ true)
    by true e g = inl (record { definition = d; there = (0, omega arith, refl); is = (item_eq-Decides d.item i).0 e })
    by false e g = inr (front_in (mentioned d.formula) (flat_map (λ (x : Definition). mentioned x.formula) ds) i g)

-- what a fact mentions is given by one of its definitions, or mentioned by a formula
pub of_fact : (f : Fact) (i : Item) → is_in (mentioned_of f) i ≡ true → IsGivenBy f.defines i ⊎ (is_in (mentioned_by f) i ≡ true)
of_fact f i h = elim (in_either (together (map mentioned f.holds)) (together (map (λ (d : Definition). d.item ∷ mentioned d.formula) f.defines)) i h) [
  | inl m ↦ inr (front_in (mentioned_in f.holds) (flat_map (λ (d : Definition). mentioned d.formula) f.defines) i (subst (λ (xs : List Item). is_in xs i ≡ true) (same_join f.holds) m))
  | inr m ↦ elim (of_definitions f.defines i m) [
    | inl r ↦ inl r
    | inr r ↦ inr (back_in (mentioned_in f.holds) (flat_map (λ (d : Definition). mentioned d.formula) f.defines) i r)
  ]
]

-- ---- what starts and conditions mention fits

basis_fits : (b : Basis) (names : List (List ℕ)) (i : Item) → IsBasisItem b names i → OwnFits b i
basis_fits b names (item.SymY k) h = h
basis_fits b names (item.SymM k) h = h
basis_fits b names (item.Undeclared k) h = tt
basis_fits b names (item.ModeY i) h = absurd h
basis_fits b names (item.ModeM i) h = absurd h
basis_fits b names (item.Outer k) h = tt
basis_fits b names (item.Same k j) h = absurd h
basis_fits b names (item.Below k j) h = absurd h
basis_fits b names (item.StartD file n) h = tt
basis_fits b names (item.StartT file n) h = tt
basis_fits b names (item.Truth file n) h = tt
basis_fits b names (item.Piece file k) h = tt
basis_fits b names (item.Line file k) h = tt
basis_fits b names (item.Block file k) h = tt
basis_fits b names (item.StateD file n turn) h = tt
basis_fits b names (item.StateT file n turn) h = tt

run_fits : (b : Basis) (i : Item) → is_of_run i ≡ true → OwnFits b i
run_fits b (item.SymY k) h = absurd (false≢true h)
run_fits b (item.SymM k) h = absurd (false≢true h)
run_fits b (item.Undeclared k) h = tt
run_fits b (item.ModeY i) h = absurd (false≢true h)
run_fits b (item.ModeM i) h = absurd (false≢true h)
run_fits b (item.Outer k) h = tt
run_fits b (item.Same k j) h = absurd (false≢true h)
run_fits b (item.Below k j) h = absurd (false≢true h)
run_fits b (item.StartD file n) h = tt
run_fits b (item.StartT file n) h = tt
run_fits b (item.Truth file n) h = tt
run_fits b (item.Piece file k) h = tt
run_fits b (item.Line file k) h = tt
run_fits b (item.Block file k) h = tt
run_fits b (item.StateD file n turn) h = tt
run_fits b (item.StateT file n turn) h = tt

module _ (owns : Owns) (p : Problem) (q : Question) (file : ℕ) where
  start_fits : (n : ℕ) (start : StartOf) → StartKind (shared p) q.family file n (macro_at p file n) start → (i : Item) → is_in (mentioned start.d ++ mentioned start.t) i ≡ true → OwnFits p.basis i
  start_fits n start (Free e free) i m = elim (in_either (mentioned start.d) (mentioned start.t) i m) [
    | inl h ↦ says_is (OwnFits p.basis) (item.StartD file n) tt i (subst (λ (s : StartOf). is_in (mentioned s.d) i ≡ true) e h)
    | inr h ↦ says_is (OwnFits p.basis) (item.StartT file n) tt i (subst (λ (s : StartOf). is_in (mentioned s.t) i ≡ true) e h)
  ]
  start_fits n start (Config asks name named e) i m = elim (in_either (mentioned start.d) (mentioned start.t) i m) [
    | inl h ↦ said.d_says i (subst (λ (s : StartOf). is_in (mentioned s.d) i ≡ true) e h)
    | inr h ↦ said.t_says i (subst (λ (s : StartOf). is_in (mentioned s.t) i ≡ true) e h)
  ]
    where
      said : BothSay (OwnFits p.basis) (config_start_of (shared p) q.family p.basis file n (macro_at p file n) name).d (config_start_of (shared p) q.family p.basis file n (macro_at p file n) name).t
      said = config_said owns (shared p) q.family p.basis (OwnFits p.basis) (basis_fits p.basis (undeclared_in (shared p) q.family)) file n (macro_at p file n) name (λ h. tt)

  -- what a fact of the source mentions
  pub given_fits : (fact : Fact) → MentionsGiven file (starts_from (shared p) q.family file 0 (mentions.names_of (directives_at p file))) (built_of (shared p) q.family (source_at p file).paths) fact
      → (i : Item) → is_in (mentioned_by fact) i ≡ true → OwnFits p.basis i
  given_fits fact given i m = by (given i m)
    where
      starts : List StartOf
      starts = starts_from (shared p) q.family file 0 (mentions.names_of (directives_at p file))

      built : BuiltOf
      built = built_of (shared p) q.family (source_at p file).paths

      of_start : IsSaidByStart file (starts_from (shared p) q.family file 0 (mentions.names_of (directives_at p file))) fact i → OwnFits p.basis i
      of_start r = start_fits r.name (macro_start_of (shared p) q.family file r.name (macro_at p file r.name)) (start_kind (shared p) q.family file r.name (macro_at p file r.name)) i
          (subst (λ (s : StartOf). is_in (mentioned s.d ++ mentioned s.t) i ≡ true) is r.said)
        where
          at : IsStartAt (shared p) q.family file 0 (mentions.names_of (directives_at p file)) r.name r.start
          at = start_at (shared p) q.family file 0 (mentions.names_of (directives_at p file)) r.name r.start r.at

          here : 0 + r.name ≡ r.name
          here = omega arith

          is : r.start ≡ macro_start_of (shared p) q.family file r.name (macro_at p file r.name)
          is = at.same ∙ ap (λ (k : ℕ). macro_start_of (shared p) q.family file k (macro_at p file r.name)) here

      by : (is_of_run i ≡ true) ⊎ (IsSaidByBuilt file built fact i ⊎ IsSaidByStart file starts fact i) → OwnFits p.basis i
      by (inl run) = run_fits p.basis i run
      by (inr (inl r)) = built_said (shared p) q.family (OwnFits p.basis) (basis_fits p.basis (undeclared_in (shared p) q.family)) (source_at p file).paths i r.said
      by (inr (inr r)) = of_start r

-- ---- the facts of a source

pub record MentionLaws : Type 0 where
  pub owns : Owns
  pub listed : SourcesAreListed
  pub given : SourcesMentionGiven
  pub defines : SourcesDefineOwn

module _ (laws : MentionLaws) (p : Problem) (q : Question) (nodes : List Node) (needs : AreNeeds p q nodes) (known : AreKnown (facts_for p q) (nodes_for q.family p.basis ++ flat_map (roots_of p) q.wishes)) where
  -- an item of a needed node
  pub owned_listed : (n : Node) → Contains nodes n → (i : Item) → owner i ≡ Some n → OwnFits p.basis i → is_in (items_of (needed_facts p q nodes)) i ≡ true
  owned_listed n h i o fit = let f = found_at p q nodes needs known n h in (fact_at p q nodes needs known n h).gives (λ (g : Fact). g.items) i
      (lists_own laws.owns laws.listed p q f.fact (kind_of p q f.fact f.there) i (o ∙ ap (λ (m : Node). Some m) (sym f.node)) fit)

  pub source_mentions : (fact : Fact) → IsOfSource p q fact → IsNeededFact p q nodes fact → (i : Item) → is_in (mentioned_of fact) i ≡ true → is_in (items_of (needed_facts p q nodes)) i ≡ true
  source_mentions fact h needed i m = by (of_fact fact i m)
    where
      starts : List StartOf
      starts = starts_from (shared p) q.family h.file 0 (mentions.names_of (directives_at p h.file))

      built : BuiltOf
      built = built_of (shared p) q.family (source_at p h.file).paths

      facts : List Fact
      facts = source_facts (shared p) q.family h.file (source_at p h.file)

      its : IsListed fact
      its = source_listed laws.owns laws.listed p q fact h

      own : IsGivenBy fact.defines i → is_in fact.items i ≡ true
      own r = its.own i (subst (λ (j : Item). owner j ≡ Some fact.node) r.is (All-contains (λ (d : Definition). owner d.item ≡ Some fact.node) fact.defines r.definition
          (All-contains DefinesOwn facts fact (laws.defines h.file (directives_at p h.file) starts built) h.there) r.there))

      beside : is_in (mentioned_by fact) i ≡ true → IsListedBy fact.names fact.items i → is_in (items_of (needed_facts p q nodes)) i ≡ true
      beside g (inl r) = needed.gives (λ (f : Fact). f.items) i r.1
      beside g (inr r) = owned_listed r.0 (named_needed p q nodes needs known fact needed r.0 (has-contains fact.names r.0 r.2)) i r.1
          (given_fits laws.owns p q h.file fact (All-contains (MentionsGiven h.file starts built) facts fact (laws.given h.file (directives_at p h.file) starts built) h.there) i g)

      by : IsGivenBy fact.defines i ⊎ (is_in (mentioned_by fact) i ≡ true) → is_in (items_of (needed_facts p q nodes)) i ≡ true
      by (inl r) = needed.gives (λ (f : Fact). f.items) i (own r)
      by (inr g) = beside g (its.mentions i g)

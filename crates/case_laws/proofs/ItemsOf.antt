-- Each item that the fact of a needed node lists is one of a needed node, or a loose one of its kind.
use Rattle.std.proofs.Common.{◌≡◌, ℕ, ◌+◌, ◌<◌, zero, suc, Bool, true, false, ◌||◌, cond, List, [], ◌∷◌, map, filter, length, Option, None, Some, is_some, not, refl, ap, sym, subst, ◌∙◌, ◌⊎◌, inl, inr, arith}
use Rattle.std.specs.List.{Contains, range_with_len}
use Rattle.std.proofs.lemmas.Bool.{false≢true}
use Rattle.std.proofs.lemmas.List.Elements.{All-contains}
use Rattle.std.proofs.lemmas.List.Folds.{list_any-append}
use Rattle.ut_logic.specs.declared.item.Item.{Item}
use Rattle.ut_logic.specs.declared.item.Item.TheVariants as item
use Rattle.ut_logic.specs.declared.node.Node.{Node}
use Rattle.ut_logic.specs.declared.facts.Fact.{Fact}
use Rattle.ut_logic.specs.declared.formula.Formula.{Formula}
use Rattle.ut_logic.specs.declared.formula.Formula.TheVariants.{Is}
use Rattle.ut_logic.specs.Assign.{is_in}
use Rattle.ut_logic.specs.Item.{item_eq}
use Rattle.ut_logic.specs.ItemIdentity.{item_eq-Decides}
use Rattle.ut_logic.specs.Owners.{owner}
use Rattle.ut_logic.specs.Truth.{mentioned, together}
use Rattle.clausify.specs.Order.{is_outer, items_of, outers_of}
use Rattle.kconf_constr.specs.Closed.{ListsFitting}
use Rattle.kconf_constr.specs.FactsOf as tree
use Rattle.kconf_constr.specs.Scope.{number_among}
use Rattle.cpp_blocks.specs.declared.starts.StartOf.{StartOf}
use Rattle.cpp_blocks.specs.declared.starts.BuiltOf.{BuiltOf}
use Rattle.cpp_blocks.specs.Facts.{start_fact}
use Rattle.cpp_blocks.specs.Given.{IsFreeOf, IsOfBuilt, IsOfStart, ListsGiven}
use Rattle.cpp_blocks.specs.Mentions as mentions
use Rattle.kbuild_paths.specs.declared.step.Step.{Step}
use Rattle.ut_case.specs.declared.question.Family.{Family}
use Rattle.ut_case.specs.declared.question.Family.TheVariants as family
use Rattle.ut_case.specs.BuiltFormulas.{built_of, paths_formula}
use Rattle.ut_case.specs.Environments.{starts_free}
use Rattle.ut_case.specs.Facts.{facts_for, name_fact, source_facts}
use Rattle.ut_case.specs.Items.{macro_at}
use Rattle.ut_case.specs.Names.{config_name}
use Rattle.ut_case.specs.Needs.{AreItems, needed_facts, wish_of}
use Rattle.ut_case.specs.Numbering.{Shared, shared}
use Rattle.ut_case.specs.Posed.{IsPosed}
use Rattle.ut_case.specs.Problem.{Basis, OfTree, OfRules, Problem, directives_at, source_at}
use Rattle.ut_case.specs.Questions.{Question}
use Rattle.ut_case.specs.StartFormulas.{config_start_of, free_start_of, macro_start_of, rule_start_of, scope_of, starts_from, undeclared_in}
use Rattle.case_laws.proofs.FileNodes.{fact_of_file}
use Rattle.case_laws.proofs.Found.{given_by}
use Rattle.case_laws.proofs.ItemKinds.{IsFreeStart, IsNeededFact, ItemIs, fits_item, free_item, in_filter, loose_item, needed_fact, own_item}
use Rattle.case_laws.proofs.FactKinds.{Kind, Tree, Name, Source, IsOfName, IsOfSource, IsOfTree, kind_of}
use Rattle.case_laws.proofs.Lower.{FactsListFitting, SourcesAreKnown, SourcesListGiven}
use Rattle.case_laws.proofs.Said.{has_more, has_none, says_is}
use Rattle.case_laws.proofs.StartKinds.{BothSay, IsBasisItem, IsTextOf, IsStartAt, StartKind, Free, Config, config_said, paths_said, start_at, start_kind}
use Rattle.case_laws.proofs.StartNodes.{of_both_said, of_one_said}
use Rattle.case_laws.proofs.StartsListed.{Owns}
use Rattle.case_laws.proofs.TreeCases.{well_made}

-- ---- loose items

-- what a filter keeps passes its test
kept_passes : (keep : Item → Bool) (xs : List Item) (i : Item) → is_in (filter keep xs) i ≡ true → keep i ≡ true
kept_passes keep [] i h = absurd (false≢true h)
kept_passes keep (x ∷ xs) i h = by (keep x) refl h (kept_passes keep xs i)
  where
    split : (b : Bool) → item_eq x i ≡ b → (b || is_in (filter keep xs) i) ≡ true → keep x ≡ true → (is_in (filter keep xs) i ≡ true → keep i ≡ true) → keep i ≡ true
    split true e m k rest = ap keep (sym ((item_eq-Decides x i).0 e)) ∙ k
    split false e m k rest = rest m

    by : (b : Bool) → keep x ≡ b → is_in (cond b (x ∷ filter keep xs) (filter keep xs)) i ≡ true → (is_in (filter keep xs) i ≡ true → keep i ≡ true) → keep i ≡ true
    by true e m rest = split (item_eq x i) refl m e rest
    by false e m rest = rest m

no_owner : (o : Option Node) → not (is_some o) ≡ true → o ≡ None
no_owner None h = refl
no_owner (Some n) h = absurd (false≢true h)

-- a loose item of formulas that some hold P of
loose_of : (fs : List Formula) (i : Item) → is_in (tree.loose_items fs) i ≡ true → owner i ≡ None
loose_of fs i m = no_owner (owner i) (kept_passes tree.is_loose (together (map mentioned fs)) i m)

loose_said : (fs : List Formula) (i : Item) → is_in (tree.loose_items fs) i ≡ true → is_in (together (map mentioned fs)) i ≡ true
loose_said fs i m = in_filter tree.is_loose (together (map mentioned fs)) i m

-- ---- what the facts of a basis list

module _ (p : Problem) (q : Question) (nodes : List Node) (posed : IsPosed p) where
  of_tree : FactsListFitting → (fact : Fact) → IsOfTree p q.family fact → IsNeededFact p q nodes fact → (i : Item) → is_in fact.items i ≡ true → ItemIs p q nodes p.basis i
  of_tree fitting fact h needed i m = let s = scope_of (shared p) q.family h.shape in
      let r = All-contains (ListsFitting s) (tree.facts_of s) fact (fitting s (well_made p h.shape posed h.is)) h.there i m in
      subst (λ (b : Basis). ItemIs p q nodes b i) (sym h.is) (fits_item p q nodes h.shape fact.node needed.needed i r.0 r.1)

  of_name : (fact : Fact) (h : IsOfName p q.family fact) → h.number < length h.rules.names → IsNeededFact p q nodes fact → (i : Item) → is_in fact.items i ≡ true → ItemIs p q nodes p.basis i
  of_name fact h lt needed i m = subst (λ (b : Basis). ItemIs p q nodes b i) (sym h.is) (has_more (λ j. ItemIs p q nodes (OfRules h.rules) j) (item.SymY h.number) [] own (has_none (λ j. ItemIs p q nodes (OfRules h.rules) j)) i
      (subst (λ (f : Fact). is_in f.items i ≡ true) h.same m))
    where
      there : Contains nodes (name_fact h.number).node
      there = subst (λ (f : Fact). Contains nodes f.node) h.same needed.needed

      own : ItemIs p q nodes (OfRules h.rules) (item.SymY h.number)
      own = (there, lt)

-- ---- what the facts of a source list

module _ (owns : Owns) (p : Problem) (q : Question) (nodes : List Node) where
  -- beside the condition
  of_paths : (f : Family) → f ≡ q.family → (paths : List (List Step)) (i : Item) → is_in (built_of (shared p) f paths).items i ≡ true → ItemIs p q nodes p.basis i
  of_paths family.Code e paths i m = absurd (false≢true m)
  of_paths family.Kconfig e paths i m = in_paths family.Kconfig e paths i m
    where
      in_paths : (f : Family) → f ≡ q.family → (paths : List (List Step)) (i : Item) → is_in (tree.loose_items (paths_formula (shared p) f paths ∷ [])) i ≡ true → ItemIs p q nodes p.basis i
      in_paths f e paths i m = loose_item p q nodes p.basis i (loose_of (paths_formula (shared p) f paths ∷ []) i m)
          (subst (λ (g : Family). IsBasisItem p.basis (undeclared_in (shared p) g) i) e
          (of_one_said (IsBasisItem p.basis (undeclared_in (shared p) f)) (paths_formula (shared p) f paths) (paths_said (shared p) f (IsBasisItem p.basis (undeclared_in (shared p) f)) (λ j h. h) paths) i (loose_said (paths_formula (shared p) f paths ∷ []) i m)))
  of_paths family.Whole e paths i m = loose_item p q nodes p.basis i (loose_of (paths_formula (shared p) family.Whole paths ∷ []) i m)
      (subst (λ (g : Family). IsBasisItem p.basis (undeclared_in (shared p) g) i) e
      (of_one_said (IsBasisItem p.basis (undeclared_in (shared p) family.Whole)) (paths_formula (shared p) family.Whole paths) (paths_said (shared p) family.Whole (IsBasisItem p.basis (undeclared_in (shared p) family.Whole)) (λ j h. h) paths) i
      (loose_said (paths_formula (shared p) family.Whole paths ∷ []) i m)))

  module _ (file n : ℕ) (within : n < length (mentions.names_of (directives_at p file))) where
    -- beside a free start
    of_free : IsNeededFact p q nodes (start_fact file n (free_start_of file n)) → starts_free q.family (macro_at p file n) ≡ true → (i : Item) → is_in (free_start_of file n).items i ≡ true → ItemIs p q nodes p.basis i
    of_free needed free i m = of_both_said (ItemIs p q nodes p.basis) (Is (item.StartD file n)) (Is (item.StartT file n)) (says_is (ItemIs p q nodes p.basis) (item.StartD file n) start)
        (says_is (ItemIs p q nodes p.basis) (item.StartT file n) start) i (loose_said (Is (item.StartD file n) ∷ Is (item.StartT file n) ∷ []) i m)
      where
        start : IsFreeStart p q nodes file n
        start = record { within = within; fact = needed; free = free }

    -- an item of the basis, or the truth of this macro
    abbrev IsSaid : Basis → List ℕ → Item → Type 0
    IsSaid b name i = IsBasisItem b (undeclared_in (shared p) q.family) i ⊎ ((i ≡ item.Truth file n) × IsTextOf b name)

    -- beside the start of `CONFIG_N`
    of_config : (q.family ≡ family.Code → ⊥) → (name : List ℕ) → config_name (macro_at p file n) ≡ Some name
        → IsNeededFact p q nodes (start_fact file n (config_start_of (shared p) q.family p.basis file n (macro_at p file n) name))
        → (i : Item) → is_in (tree.loose_items ((config_start_of (shared p) q.family p.basis file n (macro_at p file n) name).d ∷ (config_start_of (shared p) q.family p.basis file n (macro_at p file n) name).t ∷ [])) i ≡ true
        → ItemIs p q nodes p.basis i
    of_config asks name named needed i m = by (of_both_said (IsSaid p.basis name) start.d start.t said.d_says said.t_says i (loose_said (start.d ∷ start.t ∷ []) i m))
      where
        start : StartOf
        start = config_start_of (shared p) q.family p.basis file n (macro_at p file n) name

        said : BothSay (IsSaid p.basis name) start.d start.t
        said = config_said owns (shared p) q.family p.basis (IsSaid p.basis name) (λ j h. inl h) file n (macro_at p file n) name (λ h. inr (refl, h))

        by : IsSaid p.basis name i → ItemIs p q nodes p.basis i
        by (inl h) = loose_item p q nodes p.basis i (loose_of (start.d ∷ start.t ∷ []) i m) h
        by (inr h) = subst (ItemIs p q nodes p.basis) (sym h.0) (record { within = within; asks = asks; name = name; named = named; fact = needed; text = h.1 })

-- the loose items of a start of `CONFIG_N` stand beside it
config_items : (s : Shared) (f : Family) (b : Basis) (file n : ℕ) (macro name : List ℕ) → (config_start_of s f b file n macro name).items ≡ tree.loose_items ((config_start_of s f b file n macro name).d ∷ (config_start_of s f b file n macro name).t ∷ [])
config_items s f (OfTree t) file n macro name = refl
config_items s f (OfRules r) file n macro name = by (number_among r.names macro)
  where
    by : (o : Option ℕ) → (rule_start_of (undeclared_in s f) name o).items ≡ tree.loose_items ((rule_start_of (undeclared_in s f) name o).d ∷ (rule_start_of (undeclared_in s f) name o).t ∷ [])
    by None = refl
    by (Some k) = refl

module _ (owns : Owns) (p : Problem) (q : Question) (nodes : List Node) (file : ℕ) where
  abbrev starts : List StartOf
  starts = starts_from (shared p) q.family file 0 (mentions.names_of (directives_at p file))

  of_start : (fact : Fact) → IsNeededFact p q nodes fact → (i : Item) → IsOfStart file starts fact i → ItemIs p q nodes p.basis i
  of_start fact needed i r = by (start_kind (shared p) q.family file r.name (macro_at p file r.name))
    where
      at : IsStartAt (shared p) q.family file 0 (mentions.names_of (directives_at p file)) r.name r.start
      at = start_at (shared p) q.family file 0 (mentions.names_of (directives_at p file)) r.name r.start r.at

      here : 0 + r.name ≡ r.name
      here = omega arith

      is : r.start ≡ macro_start_of (shared p) q.family file r.name (macro_at p file r.name)
      is = at.same ∙ ap (λ (k : ℕ). macro_start_of (shared p) q.family file k (macro_at p file r.name)) here

      by : StartKind (shared p) q.family file r.name (macro_at p file r.name) (macro_start_of (shared p) q.family file r.name (macro_at p file r.name)) → ItemIs p q nodes p.basis i
      by (Free e free) = of_free owns p q nodes file r.name at.within (subst (IsNeededFact p q nodes) (r.fact ∙ ap (start_fact file r.name) (is ∙ e)) needed) free i (subst (λ (s : StartOf). is_in s.items i ≡ true) (is ∙ e) r.listed)
      by (Config asks name named e) = of_config owns p q nodes file r.name at.within asks name named (subst (IsNeededFact p q nodes) (r.fact ∙ ap (start_fact file r.name) (is ∙ e)) needed) i
          (subst (λ (items : List Item). is_in items i ≡ true) (config_items (shared p) q.family p.basis file r.name (macro_at p file r.name) name) (subst (λ (s : StartOf). is_in s.items i ≡ true) (is ∙ e) r.listed))

-- ---- what needed facts list

-- a number of a range lies in it
range_within : (a n k : ℕ) → Contains (range_with_len a n) k → k < a + n
range_within a zero k h = absurd (omega (arith, h.1))
range_within a (suc n) k (zero, l, e) = let at : a ≡ k = e in omega (arith, at)
range_within a (suc n) k (suc j, l, e) = let r : k < (a + 1) + n = range_within (a + 1) n k (j, omega arith, e) in omega (arith, r)

pub place_within : (n k : ℕ) → Contains (range_with_len 0 n) k → k < n
place_within n k h = let r : k < 0 + n = range_within 0 n k h in omega (arith, r)

-- an outer condition
outer_is : (p : Problem) (q : Question) (nodes : List Node) (b : Basis) (i : Item) → is_outer i ≡ true → ItemIs p q nodes b i
outer_is p q nodes b (item.SymY k) h = absurd (false≢true h)
outer_is p q nodes b (item.SymM k) h = absurd (false≢true h)
outer_is p q nodes b (item.Undeclared k) h = absurd (false≢true h)
outer_is p q nodes b (item.ModeY i) h = absurd (false≢true h)
outer_is p q nodes b (item.ModeM i) h = absurd (false≢true h)
outer_is p q nodes b (item.Outer k) h = tt
outer_is p q nodes b (item.Same k j) h = absurd (false≢true h)
outer_is p q nodes b (item.Below k j) h = absurd (false≢true h)
outer_is p q nodes b (item.StartD f k) h = absurd (false≢true h)
outer_is p q nodes b (item.StartT f k) h = absurd (false≢true h)
outer_is p q nodes b (item.Truth f k) h = absurd (false≢true h)
outer_is p q nodes b (item.Piece f k) h = absurd (false≢true h)
outer_is p q nodes b (item.Line f k) h = absurd (false≢true h)
outer_is p q nodes b (item.Block f k) h = absurd (false≢true h)
outer_is p q nodes b (item.StateD f k turn) h = absurd (false≢true h)
outer_is p q nodes b (item.StateT f k turn) h = absurd (false≢true h)

-- the laws that this rests on
pub record ListLaws : Type 0 where
  pub owns : Owns
  pub fitting : FactsListFitting
  pub known : SourcesAreKnown
  pub given : SourcesListGiven

module _ (laws : ListLaws) (p : Problem) (q : Question) (nodes : List Node) (posed : IsPosed p) where
  of_source : (fact : Fact) → IsOfSource p q fact → IsNeededFact p q nodes fact → (i : Item) → is_in fact.items i ≡ true → ItemIs p q nodes p.basis i
  of_source fact h needed i m = by (All-contains (ListsGiven h.file (directives_at p h.file) (starts_from (shared p) q.family h.file 0 (mentions.names_of (directives_at p h.file))) built) (source_facts (shared p) q.family h.file (source_at p h.file)) fact
      (laws.given h.file (directives_at p h.file) (starts_from (shared p) q.family h.file 0 (mentions.names_of (directives_at p h.file))) built) h.there i m)
    where
      built : BuiltOf
      built = built_of (shared p) q.family (source_at p h.file).paths

      by : (owner i ≡ Some fact.node) ⊎ (IsOfBuilt h.file built fact i ⊎ (IsOfStart h.file (starts_from (shared p) q.family h.file 0 (mentions.names_of (directives_at p h.file))) fact i ⊎ IsFreeOf h.file (directives_at p h.file) i)) → ItemIs p q nodes p.basis i
      by (inl e) = own_item p q nodes p.basis h.file fact.node (fact_of_file laws.known p posed q fact h) needed.needed i e
      by (inr (inl r)) = of_paths laws.owns p q nodes q.family refl (source_at p h.file).paths i r.listed
      by (inr (inr (inl r))) = of_start laws.owns p q nodes h.file fact needed i r
      by (inr (inr (inr r))) = free_item p q nodes p.basis h.file i r

  pub fact_is : (fact : Fact) → Kind p q fact → IsNeededFact p q nodes fact → (i : Item) → is_in fact.items i ≡ true → ItemIs p q nodes p.basis i
  fact_is fact (Tree h) needed i m = of_tree p q nodes posed laws.fitting fact h needed i m
  fact_is fact (Name h) needed i m = of_name p q nodes posed fact h (place_within (length h.rules.names) h.number h.within) needed i m
  fact_is fact (Source h) needed i m = of_source fact h needed i m

  -- what they list
  pub listed_is : (i : Item) → is_in (items_of (needed_facts p q nodes)) i ≡ true → ItemIs p q nodes p.basis i
  listed_is i m = let g = given_by (λ (f : Fact). f.items) i (facts_for p q) nodes m in
      fact_is g.of.found.fact (kind_of p q g.of.found.fact g.of.found.there) (needed_fact p q nodes g.node g.needed g.of.found) i g.of.item

  -- the items of a question
  pub item_is : (items : List Item) → AreItems p q nodes items → (i : Item) → is_in items i ≡ true → ItemIs p q nodes p.basis i
  item_is items named i m = by (is_in (items_of (needed_facts p q nodes)) i) refl (sym (list_any-append (λ x. item_eq x i) (items_of (needed_facts p q nodes)) (outers_of (wish_of p q))) ∙ (sym (named.exact i) ∙ m))
    where
      by : (b : Bool) → is_in (items_of (needed_facts p q nodes)) i ≡ b → (b || is_in (outers_of (wish_of p q)) i) ≡ true → ItemIs p q nodes p.basis i
      by true e g = listed_is i e
      by false e g = outer_is p q nodes p.basis i (kept_passes is_outer (together (map mentioned (wish_of p q))) i g)

-- The truths of a case meet the facts of its question, and the rules of a model text.
use Rattle.std.proofs.Common.{◌≡◌, ℕ, ◌<◌, ◌≤◌, zero, suc, true, List, [], ◌∷◌, map, length, get_or, All, Option, None, Some, refl, ap, sym, subst, ◌∙◌, inl, inr, arith}
use Rattle.std.specs.Prelude.{Result, Ok, Err}
use Rattle.std.specs.List.{AllByRecursion, Contains, flat_map, range_with_len}
use Rattle.std.proofs.lemmas.Bool.{cases_lt}
use Rattle.std.proofs.lemmas.List.Elements.{All-from_recursion, recursion_from_All, All-contains, Contains-append_right, Contains-get_or}
use Rattle.ut_logic.specs.declared.item.Item.{Item}
use Rattle.ut_logic.specs.declared.item.Item.TheVariants as item
use Rattle.ut_logic.specs.declared.formula.Formula.{Formula}
use Rattle.ut_logic.specs.declared.facts.Fact.{Fact}
use Rattle.ut_logic.specs.declared.facts.Definition.{Definition}
use Rattle.ut_logic.specs.declared.facts.Rules.{Rules}
use Rattle.ut_logic.specs.Facts.{Meets, MeetsAll, IsDefined}
use Rattle.ut_logic.specs.Truth.{truth, truths, all_true}
use Rattle.ut_logic.proofs.MentionLaws.{truth-agree}
use Rattle.cpp_directives.specs.declared.directive.Directive.{Directive}
use Rattle.cpp_directives.specs.declared.bad.CppBad.{CppBad}
use Rattle.cpp_directives.specs.WellFormed.{IsWellFormed}
use Rattle.cpp_blocks.specs.Mentions.{names_of}
use Rattle.kconf_tree.specs.declared.shape.Counts.{Counts}
use Rattle.kconf_tree.specs.declared.shape.Counts.TheVariants as counts
use Rattle.kconf_tree.specs.Looks.{AreSameIn}
use Rattle.kconf_tree.specs.Shape.{Shape, counts_as}
use Rattle.kconf_tree.specs.Valid.{choice_counts}
use Rattle.kconf_constr.specs.Closed.{Fits, IsClosed, MentionsOwn}
use Rattle.kconf_constr.specs.FactsOf as tree
use Rattle.kconf_constr.specs.PropertyFormulas.{written_formula}
use Rattle.kconf_constr.specs.Scope.{Scope, number_among}
use Rattle.kconf_constr.specs.Stands.{truths_of, value_as, mode_as, undeclared_truth, read_off}
use Rattle.ut_case.specs.declared.question.Family.{Family}
use Rattle.ut_case.specs.declared.question.Family.TheVariants as family
use Rattle.ut_case.specs.Cases.{Case, IsCaseOf, Keeps, name_truth}
use Rattle.ut_case.specs.Facts.{facts_for, rules_for, basis_facts, basis_facts_for, basis_rules, name_fact, places, source_facts, files_of}
use Rattle.ut_case.specs.Items.{item_truth}
use Rattle.ut_case.specs.Laws.{CasesMeetFacts}
use Rattle.ut_case.specs.Numbering.{shared, basis_undeclared, source_undeclared, macro_undeclared, step_undeclared}
use Rattle.ut_case.specs.Names.{config_name}
use Rattle.ut_case.specs.Posed.{IsPosed, IsBasis, AreRules, IsRead}
use Rattle.ut_case.specs.Problem.{Basis, OfTree, OfRules, Source, Problem, no_source, source_at, directives_in, directives_of, directives_at}
use Rattle.ut_case.specs.StartFormulas.{scope_of}
use Rattle.case_laws.proofs.Basics.{back, front, joined}
use Rattle.case_laws.proofs.BuiltSays.{built_says}
use Rattle.case_laws.proofs.Lower.{TruthsAreReadBack, RulesMeetFacts, FactsAreClosed, FormulasSayWritten, WrittenAlike, FactsAreTheRun}
use Rattle.case_laws.proofs.MacroStarts.{contains_flat, macro_says}
use Rattle.case_laws.proofs.OneList.{In, contains_in}
use Rattle.case_laws.proofs.Outside.{are_starts, starts_count, built_outside}
use Rattle.case_laws.proofs.Answering.{truths_same}
use Rattle.case_laws.proofs.Sources.{source_met}
use Rattle.case_laws.proofs.Starts.{SaysWrittenHere}
use Rattle.case_laws.proofs.TreeCases.{well_made, keeps, covers, reads_back}

-- ---- the facts of a tree

-- a case has its own truths on what fits the tree
fits_same : (p : Problem) (f : Family) (t : Shape) (x : Case) (i : Item) → Fits (scope_of (shared p) f t) i → truths_of (scope_of (shared p) f t) x.configuration i ≡ item_truth p f x i
fits_same p f t x (item.SymY k) h = refl
fits_same p f t x (item.SymM k) h = refl
fits_same p family.Code t x (item.Undeclared k) h = absurd (omega (arith, h))
fits_same p family.Kconfig t x (item.Undeclared k) h = refl
fits_same p family.Whole t x (item.Undeclared k) h = absurd (omega (arith, h))
fits_same p f t x (item.ModeY i) h = refl
fits_same p f t x (item.ModeM i) h = refl
fits_same p f t x (item.Outer k) h = refl
fits_same p f t x (item.Same sym k) h = absurd h
fits_same p f t x (item.Below sym k) h = absurd h
fits_same p f t x (item.StartD file n) h = absurd h
fits_same p f t x (item.StartT file n) h = absurd h
fits_same p f t x (item.Truth file n) h = absurd h
fits_same p f t x (item.Piece file k) h = absurd h
fits_same p f t x (item.Line file k) h = absurd h
fits_same p f t x (item.Block file k) h = absurd h
fits_same p f t x (item.StateD file n turn) h = absurd h
fits_same p f t x (item.StateT file n turn) h = absurd h

module _ (p : Problem) (f : Family) (t : Shape) (x : Case) where
  abbrev s : Scope
  s = scope_of (shared p) f t

  -- a fact that holds formulas over what fits, and defines nothing, is met alike
  met_alike : (fact : Fact) → fact.defines ≡ [] → IsClosed s fact → Meets (truths_of s x.configuration) fact → Meets (item_truth p f x) fact
  met_alike fact none closed met = record {
    held = sym (ap all_true (truths_same (truths_of s x.configuration) (item_truth p f x) fact.holds (λ i h. fits_same p f t x i (closed i h).0))) ∙ met.held;
    defined = subst (λ (ds : List Definition). All (IsDefined (item_truth p f x)) ds) (sym none) (λ k d l. absurd (omega (arith, l)));
  }

  made_alike : (make : ℕ → Fact) → ((k : ℕ) → (make k).defines ≡ []) → (ks : List ℕ) → AllByRecursion (IsClosed s) (map make ks) → AllByRecursion (Meets (truths_of s x.configuration)) (map make ks)
      → AllByRecursion (Meets (item_truth p f x)) (map make ks)
  made_alike make none [] closed met = tt
  made_alike make none (k ∷ ks) closed met = (met_alike (make k) (none k) closed.0 met.0, made_alike make none ks closed.1 met.1)

  tree_met : FactsAreClosed → RulesMeetFacts → (posed : IsPosed p) (is : p.basis ≡ OfTree t) (other : f ≡ family.Code → ⊥) (belongs : IsCaseOf p f x) → AllByRecursion (Meets (item_truth p f x)) (tree.facts_of s)
  tree_met closed rules posed is other belongs = joined (Meets (item_truth p f x)) symbols choices
      (made_alike (tree.symbol_fact s) (λ k. refl) (range_with_len 0 (length t.symbols)) (front (IsClosed s) symbols choices all_closed) (front (Meets (truths_of s x.configuration)) symbols choices all_met))
      (made_alike (tree.choice_fact s) (λ k. refl) (range_with_len 0 (length t.choices)) (back (IsClosed s) symbols choices all_closed) (back (Meets (truths_of s x.configuration)) symbols choices all_met))
    where
      symbols : List Fact
      symbols = map (tree.symbol_fact s) (range_with_len 0 (length t.symbols))

      choices : List Fact
      choices = map (tree.choice_fact s) (range_with_len 0 (length t.choices))

      all_closed : AllByRecursion (IsClosed s) (tree.facts_of s)
      all_closed = recursion_from_All (IsClosed s) (tree.facts_of s) (closed s (well_made p t posed is))

      all_met : AllByRecursion (Meets (truths_of s x.configuration)) (tree.facts_of s)
      all_met = recursion_from_All (Meets (truths_of s x.configuration)) (tree.facts_of s) (rules s (well_made p t posed is) x.configuration (covers p t x posed is f other belongs) (keeps p t x posed is f other belongs))

  -- ---- the formula of a written symbol

  value_alike : (kind : Counts) (k : ℕ) → value_as kind (truths_of s x.configuration) k ≡ value_as kind (item_truth p f x) k
  value_alike counts.Bool k = refl
  value_alike counts.Tristate k = refl
  value_alike counts.Neither k = refl

  mode_alike : (kind : Counts) (i : ℕ) → mode_as kind (truths_of s x.configuration) i ≡ mode_as kind (item_truth p f x) i
  mode_alike counts.Bool i = refl
  mode_alike counts.Tristate i = refl
  mode_alike counts.Neither i = refl

-- an undeclared name is read alike
undeclared_alike : (p : Problem) (f : Family) (t : Shape) (x : Case) (name : List ℕ) → undeclared_truth (truths_of (scope_of (shared p) f t) x.configuration) (number_among (scope_of (shared p) f t).undeclared name)
    ≡ undeclared_truth (item_truth p f x) (number_among (scope_of (shared p) f t).undeclared name)
undeclared_alike p family.Code t x name = refl
undeclared_alike p family.Kconfig t x name = by (number_among p.undeclared name)
  where
    by : (o : Option ℕ) → undeclared_truth (truths_of (scope_of (shared p) family.Kconfig t) x.configuration) o ≡ undeclared_truth (item_truth p family.Kconfig x) o
    by None = refl
    by (Some k) = refl
undeclared_alike p family.Whole t x name = refl

same_here : (p : Problem) (f : Family) (t : Shape) (x : Case) → AreSameIn t x.configuration (read_off (scope_of (shared p) f t) (truths_of (scope_of (shared p) f t) x.configuration))
    → AreSameIn t x.configuration (read_off (scope_of (shared p) f t) (item_truth p f x))
same_here p f t x same = record {
  values = λ k lt. same.values k lt ∙ value_alike p f t x (counts_as t k) k;
  modes = λ i lt. same.modes i lt ∙ mode_alike p f t x (choice_counts t i) i;
  outers = λ k lt. refl;
  undeclared = λ name there. same.undeclared name there ∙ undeclared_alike p f t x name;
}

pub written_here : TruthsAreReadBack → FormulasSayWritten → WrittenAlike → (p : Problem) (f : Family) (x : Case) → IsPosed p → IsCaseOf p f x → (f ≡ family.Code → ⊥) → (t : Shape) → p.basis ≡ OfTree t → SaysWrittenHere p f x t
written_here back written alike p f x posed belongs other t is k text = written (scope_of (shared p) f t) k text (item_truth p f x)
    ∙ sym (alike t (well_made p t posed is) x.configuration (read_off (scope_of (shared p) f t) (item_truth p f x)) (same_here p f t x (reads_back p t x posed is back f other belongs)) k)

-- ---- the rules of a model text

module _ (p : Problem) (f : Family) (x : Case) (r : Rules) (rules : AreRules r) where
  rule_same : (formula : Formula) → Contains r.holds formula → truth (item_truth p f x) formula ≡ truth (name_truth x.configuration) formula
  rule_same formula there = truth-agree (item_truth p f x) (name_truth x.configuration) formula (λ i h. let w = rules.within formula i there h in ap (item_truth p f x) w.1 ∙ sym (ap (name_truth x.configuration) w.1))

  rules_same : (fs : List Formula) → ((formula : Formula) → In fs formula → Contains r.holds formula) → truths (item_truth p f x) fs ≡ truths (name_truth x.configuration) fs
  rules_same [] within = refl
  rules_same (formula ∷ fs) within = let one = rule_same formula (within formula (inl refl)) in let rest = rules_same fs (λ g h. within g (inr h)) in λ i. one i ∷ rest i

  pub rules_met : all_true (truths (name_truth x.configuration) r.holds) ≡ true → all_true (truths (item_truth p f x) r.holds) ≡ true
  rules_met h = ap all_true (rules_same r.holds (λ g k. contains_in r.holds g k)) ∙ h

  names_met : (ks : List ℕ) → AllByRecursion (Meets (item_truth p f x)) (map name_fact ks)
  names_met [] = tt
  names_met (k ∷ ks) = (record { held = refl; defined = λ j d l. absurd (omega (arith, l)) }, names_met ks)

basis_rules_met : (p : Problem) (f : Family) (x : Case) (b : Basis) → IsBasis b → Keeps b x.configuration → all_true (truths (item_truth p f x) (basis_rules b)) ≡ true
basis_rules_met p f x (OfTree t) made keep = refl
basis_rules_met p f x (OfRules r) made keep = rules_met p f x r made keep

rules_here : (p : Problem) (f : Family) (x : Case) → IsPosed p → IsCaseOf p f x → all_true (truths (item_truth p f x) (rules_for f p.basis)) ≡ true
rules_here p family.Code x posed belongs = refl
rules_here p family.Kconfig x posed belongs = basis_rules_met p family.Kconfig x p.basis posed.made belongs
rules_here p family.Whole x posed belongs = basis_rules_met p family.Whole x p.basis posed.made belongs.0

-- ---- sources

-- nothing stands past the last source
pub past_source : (xs : List Source) (k : ℕ) → length xs ≤ k → get_or xs k no_source ≡ no_source
past_source [] k h = refl
past_source (y ∷ ys) zero h = absurd (omega (arith, h))
past_source (y ∷ ys) (suc k) h = past_source ys k (omega (arith, h))

pub none_formed : IsWellFormed []
none_formed = record { chains = refl; lines = refl }

pub read_formed : (r : Result (List Directive) CppBad) → IsRead r → IsWellFormed (directives_in r)
read_formed (Ok ds) h = h
read_formed (Err e) h = none_formed

-- the directives of every number are well formed
pub formed_at : (p : Problem) → IsPosed p → (file : ℕ) → IsWellFormed (directives_at p file)
formed_at p posed file = elim (cases_lt file (length p.sources)) [
  | inl lt ↦ read_formed (source_at p file).read (All-contains (λ (s : Source). IsRead s.read) p.sources (source_at p file) posed.read (Contains-get_or p.sources file no_source lt))
  | inr past ↦ subst (λ (s : Source). IsWellFormed (directives_of s)) (sym (past_source p.sources file past)) none_formed
]

-- ---- all facts

module _ (back : TruthsAreReadBack) (meets : RulesMeetFacts) (closed : FactsAreClosed) (written : FormulasSayWritten) (owns : (s : Scope) (k : ℕ) → MentionsOwn s k (written_formula s k)) (alike : WrittenAlike) (run : FactsAreTheRun) where
  basis_met : (p : Problem) (f : Family) (x : Case) (posed : IsPosed p) → (f ≡ family.Code → ⊥) → IsCaseOf p f x → (b : Basis) → p.basis ≡ b → AllByRecursion (Meets (item_truth p f x)) (basis_facts (shared p) f b)
  basis_met p f x posed other belongs (OfTree t) is = tree_met p f t x closed meets posed is other belongs
  basis_met p f x posed other belongs (OfRules r) is = names_met p f x r (subst IsBasis is posed.made) (places r.names)

  basis_here : (p : Problem) (f : Family) (x : Case) → IsPosed p → IsCaseOf p f x → AllByRecursion (Meets (item_truth p f x)) (basis_facts_for (shared p) f)
  basis_here p family.Code x posed belongs = tt
  basis_here p family.Kconfig x posed belongs = basis_met p family.Kconfig x posed (λ h. absurd (cc)) belongs p.basis refl
  basis_here p family.Whole x posed belongs = basis_met p family.Whole x posed (λ h. absurd (cc)) belongs p.basis refl

  module _ (p : Problem) (f : Family) (x : Case) (posed : IsPosed p) (belongs : IsCaseOf p f x) where
    -- a step's undeclared name has a number
    step_number : (source : Source) → Contains p.sources source → (name : List ℕ) → Contains (flat_map (flat_map (step_undeclared p.basis)) source.paths) name → Contains p.undeclared name
    step_number source there name h = (posed.numbered.exact name).1 (Contains-append_right (basis_undeclared p.basis) (flat_map (source_undeclared p.basis) p.sources) name
        (contains_flat (source_undeclared p.basis) p.sources source name there
        (Contains-append_right (flat_map (λ (macro : List ℕ). macro_undeclared p.basis macro (config_name macro)) (names_of (directives_of source))) (flat_map (flat_map (step_undeclared p.basis)) source.paths) name h)))

    -- a source of the problem
    inside : (file : ℕ) → file < length p.sources → MeetsAll (item_truth p f x) (source_facts (shared p) f file (source_at p file))
    inside file lt = let there = Contains-get_or p.sources file no_source lt in
        source_met p f x file (λ n macro h. macro_says back p f x posed belongs (written_here back written alike p f x posed belongs) (source_at p file) there file n macro (contains_in (names_of (directives_at p file)) macro h))
        (built_says back p f x posed belongs (source_at p file).paths (step_number (source_at p file) there))
        run (read_formed (source_at p file).read (All-contains (λ (s : Source). IsRead s.read) p.sources (source_at p file) posed.read there))
        (starts_count (shared p) f file 0 (names_of (directives_at p file))) (are_starts owns (shared p) f file 0 (names_of (directives_at p file))) (built_outside (shared p) f (source_at p file).paths)

    -- the source past the last one, which names nothing
    outside : (file : ℕ) → source_at p file ≡ no_source → MeetsAll (item_truth p f x) (source_facts (shared p) f file (source_at p file))
    outside file e = source_met p f x file (λ n macro h. absurd (subst (λ (s : Source). In (names_of (directives_of s)) macro) e h))
        (built_says back p f x posed belongs (source_at p file).paths (λ name h. absurd (none (subst (λ (s : Source). Contains (flat_map (flat_map (step_undeclared p.basis)) s.paths) name) e h))))
        run (subst (λ (s : Source). IsWellFormed (directives_of s)) (sym e) none_formed)
        (starts_count (shared p) f file 0 (names_of (directives_at p file))) (are_starts owns (shared p) f file 0 (names_of (directives_at p file))) (built_outside (shared p) f (source_at p file).paths)
      where
        none : {A : Type 0} {x : A} → Contains [] x → ⊥
        none h = omega (arith, h.1)

    each_source : (file : ℕ) → MeetsAll (item_truth p f x) (source_facts (shared p) f file (source_at p file))
    each_source file = elim (cases_lt file (length p.sources)) [
      | inl lt ↦ inside file lt
      | inr past ↦ outside file (past_source p.sources file past)
    ]

    all_sources : (files : List ℕ) → AllByRecursion (Meets (item_truth p f x)) (flat_map (λ file. source_facts (shared p) f file (source_at p file)) files)
    all_sources [] = tt
    all_sources (file ∷ files) = joined (Meets (item_truth p f x)) (source_facts (shared p) f file (source_at p file)) (flat_map (λ other. source_facts (shared p) f other (source_at p other)) files)
        (recursion_from_All (Meets (item_truth p f x)) (source_facts (shared p) f file (source_at p file)) (each_source file)) (all_sources files)

  pub cases_meet : CasesMeetFacts
  cases_meet p q askable x belongs = (
    All-from_recursion (Meets (item_truth p q.family x)) (facts_for p q) (joined (Meets (item_truth p q.family x)) (basis_facts_for (shared p) q.family)
        (flat_map (λ file. source_facts (shared p) q.family file (source_at p file)) (files_of q)) (basis_here p q.family x askable.posed belongs) (all_sources p q.family x askable.posed belongs (files_of q))),
    rules_here p q.family x askable.posed belongs,
  )

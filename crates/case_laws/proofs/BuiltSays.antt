-- The formula of when a source is built says when it is.
use Rattle.std.proofs.Common.{◌≡◌, ℕ, ◌==◌, Bool, true, false, not, ◌&&◌, ◌||◌, cond, List, [], ◌∷◌, ◌++◌, map, Option, None, Some, is_some, refl, sym, subst, ◌∙◌, arith}
use Rattle.std.specs.Prelude.{codes}
use Rattle.std.specs.List.{Contains, flat_map, list_all, list_any}
use Rattle.std.proofs.lemmas.List.Elements.{Contains-append_left, Contains-append_right}
use Rattle.ut_logic.specs.declared.item.Item.{Item}
use Rattle.ut_logic.specs.declared.item.Item.TheVariants as item
use Rattle.ut_logic.specs.Fold.{all_of}
use Rattle.ut_logic.specs.Truth.{truth, truths, all_true, any_true}
use Rattle.ut_logic.proofs.FoldLaws.{truth-Yes, truth-No, truth-Is, truth-all_of, truth-any_of}
use Rattle.kconf_tree.specs.Shape.{Shape, counts_as, number_of}
use Rattle.kconf_tree.specs.Value.{named}
use Rattle.kconf_constr.specs.Levels.{named_levels}
use Rattle.kconf_constr.specs.Scope.{number_among}
use Rattle.kbuild_paths.specs.declared.step.Step.{Step}
use Rattle.kbuild_paths.specs.declared.step.Step.TheVariants as step
use Rattle.ut_case.specs.declared.question.Family.{Family}
use Rattle.ut_case.specs.declared.question.Family.TheVariants as family
use Rattle.ut_case.specs.Built.{is_enabled, rule_truth, step_truth, is_built, kbuild_number}
use Rattle.ut_case.specs.BuiltFormulas.{built_of, enabled_formula, paths_formula, rule_formula, step_formula}
use Rattle.ut_case.specs.Cases.{Case, IsCaseOf}
use Rattle.ut_case.specs.Items.{item_truth}
use Rattle.ut_case.specs.Numbering.{shared, step_undeclared}
use Rattle.ut_case.specs.Posed.{IsPosed}
use Rattle.ut_case.specs.Problem.{Basis, OfTree, OfRules, Problem}
use Rattle.ut_case.specs.StartFormulas.{scope_of}
use Rattle.case_laws.proofs.Lower.{TruthsAreReadBack}
use Rattle.case_laws.proofs.Starts.{free}
use Rattle.case_laws.proofs.TreeCases.{reads_back, own_not_n, number_within}

y_or_n : (u : Bool) → u ≡ not (cond u 2 0 == 0)
y_or_n true = refl
y_or_n false = refl

or_none : (a b : Bool) → (a || (b || false)) ≡ (a || b)
or_none true b = refl
or_none false true = refl
or_none false false = refl

-- an undeclared name of a step is listed for it
step_lists : (t : Shape) (name : List ℕ) → number_of t name ≡ None → Contains (step_undeclared (OfTree t) (step.On name)) name
step_lists t name e = subst (λ (o : Option ℕ). Contains (cond (is_some o) [] (name ∷ [])) name) (sym e) (0, omega arith, refl)

module _ (back : TruthsAreReadBack) (p : Problem) (f : Family) (other : f ≡ family.Code → ⊥) (x : Case) (posed : IsPosed p) (belongs : IsCaseOf p f x) where
  abbrev v : Item → Bool
  v = item_truth p f x

  -- a name of a tree with this number
  tree_enabled : (t : Shape) → p.basis ≡ OfTree t → (name : List ℕ) (k : Option ℕ) → number_of t name ≡ k → (k ≡ None → Contains p.undeclared name)
      → truth v (named_levels (scope_of (shared p) f t) name k).not_n ≡ not (named t x.configuration name k == 0)
  tree_enabled t is name None e number = free p x f other belongs name (number refl) ∙ y_or_n (x.configuration.undeclared name)
  tree_enabled t is name (Some k) e number = own_not_n p f x (scope_of (shared p) f t) (reads_back p t x posed is back f other belongs) k (number_within t name k e) (counts_as t k) refl

  rule_enabled : (k : Option ℕ) → truth v (rule_formula k) ≡ rule_truth x.configuration k
  rule_enabled None = truth-No v
  rule_enabled (Some k) = truth-Is v (item.SymY k)

  enabled_in : (b : Basis) → p.basis ≡ b → (name : List ℕ) → (Contains (step_undeclared b (step.On name)) name → Contains p.undeclared name)
      → truth v (enabled_formula (shared p) f b name) ≡ is_enabled b x.configuration name
  enabled_in (OfTree t) is name number = tree_enabled t is name (number_of t name) refl (λ e. number (step_lists t name e))
  enabled_in (OfRules r) is name number = let one = number_among r.names (codes "CONFIG_" ++ name) in let more = number_among r.names (codes "CONFIG_" ++ name ++ codes "_MODULE") in
      truth-any_of v (rule_formula one ∷ rule_formula more ∷ []) ∙ ((λ i. rule_enabled one i || (rule_enabled more i || false)) ∙ or_none (rule_truth x.configuration one) (rule_truth x.configuration more))

  -- a step, a path, and all paths
  step_says : (s : Step) → ((name : List ℕ) → Contains (step_undeclared p.basis s) name → Contains p.undeclared name) → truth v (step_formula (shared p) f s) ≡ step_truth (shared p) x.configuration s
  step_says (step.On name) number = enabled_in p.basis refl name (number name)
  step_says (step.Free text) number = truth-Is v (item.Outer (kbuild_number (shared p) text))

  each_says : (path : List Step) → ((name : List ℕ) → Contains (flat_map (step_undeclared p.basis) path) name → Contains p.undeclared name)
      → all_true (truths v (map (step_formula (shared p) f) path)) ≡ list_all (step_truth (shared p) x.configuration) path
  each_says [] number = refl
  each_says (s ∷ path) number = let one = step_says s (λ name h. number name (Contains-append_left (step_undeclared p.basis s) (flat_map (step_undeclared p.basis) path) name h)) in
      let rest = each_says path (λ name h. number name (Contains-append_right (step_undeclared p.basis s) (flat_map (step_undeclared p.basis) path) name h)) in λ i. one i && rest i

  some_says : (paths : List (List Step)) → ((name : List ℕ) → Contains (flat_map (flat_map (step_undeclared p.basis)) paths) name → Contains p.undeclared name)
      → any_true (truths v (map (λ path. all_of (map (step_formula (shared p) f) path)) paths)) ≡ list_any (list_all (step_truth (shared p) x.configuration)) paths
  some_says [] number = refl
  some_says (path ∷ paths) number = let one = truth-all_of v (map (step_formula (shared p) f) path)
      ∙ each_says path (λ name h. number name (Contains-append_left (flat_map (step_undeclared p.basis) path) (flat_map (flat_map (step_undeclared p.basis)) paths) name h)) in
      let rest = some_says paths (λ name h. number name (Contains-append_right (flat_map (step_undeclared p.basis) path) (flat_map (flat_map (step_undeclared p.basis)) paths) name h)) in λ i. one i || rest i

  paths_say : (paths : List (List Step)) → ((name : List ℕ) → Contains (flat_map (flat_map (step_undeclared p.basis)) paths) name → Contains p.undeclared name)
      → truth v (paths_formula (shared p) f paths) ≡ list_any (list_all (step_truth (shared p) x.configuration)) paths
  paths_say paths number = truth-any_of v (map (λ path. all_of (map (step_formula (shared p) f) path)) paths) ∙ some_says paths number

-- where the undeclared names of the steps have numbers
pub built_says : (back : TruthsAreReadBack) (p : Problem) (f : Family) (x : Case) → IsPosed p → IsCaseOf p f x → (paths : List (List Step))
    → ((name : List ℕ) → Contains (flat_map (flat_map (step_undeclared p.basis)) paths) name → Contains p.undeclared name)
    → truth (item_truth p f x) (built_of (shared p) f paths).formula ≡ is_built (shared p) f x.configuration paths
built_says back p family.Code x posed belongs paths number = truth-Yes (item_truth p family.Code x)
built_says back p family.Kconfig x posed belongs paths number = paths_say back p family.Kconfig (λ h. absurd (cc)) x posed belongs paths number
built_says back p family.Whole x posed belongs paths number = paths_say back p family.Whole (λ h. absurd (cc)) x posed belongs paths number

-- The starts of a source, and its condition, are listed as its facts ask; and the nodes that they name have facts of the basis.
use Rattle.std.proofs.Common.{◌≡◌, ℕ, ◌<◌, ◌≤◌, suc, Bool, true, false, cond, List, [], ◌∷◌, ◌++◌, length, All, Option, None, Some, refl, ap, sym, subst, ◌∙◌, inl, inr, arith, eqb}
use Rattle.std.specs.List.{AllByRecursion, flat_map}
use Rattle.std.specs.Option.{option_to_list}
use Rattle.std.proofs.lemmas.Bool.{false≢true, cases_lt}
use Rattle.std.proofs.lemmas.Bool.Decides.{nat_tests}
use Rattle.std.proofs.lemmas.List.Elements.{All-from_recursion}
use Rattle.std.proofs.lemmas.List.{get_or_past}
use Rattle.ut_logic.specs.declared.item.Item.{Item}
use Rattle.ut_logic.specs.declared.item.Item.TheVariants as item
use Rattle.ut_logic.specs.declared.node.Node.{Node}
use Rattle.ut_logic.specs.declared.node.Node.TheVariants as node
use Rattle.ut_logic.specs.declared.formula.Formula.{Formula}
use Rattle.kbuild_paths.specs.declared.step.Step.{Step}
use Rattle.kbuild_paths.specs.declared.step.Step.TheVariants as step
use Rattle.kconf_tree.specs.declared.shape.Counts.TheVariants as counts
use Rattle.kconf_tree.specs.Shape.{Shape, symbol_at, no_symbol, counts_as, counts_with, number_of, is_the}
use Rattle.kconf_tree.specs.WellMade.{IsWellMade}
use Rattle.kconf_constr.specs.Closed.{IsTrit, MentionsOwn}
use Rattle.kconf_constr.specs.FactsOf.{loose_items}
use Rattle.kconf_constr.specs.PropertyFormulas.{written_formula}
use Rattle.kconf_constr.specs.Scope.{Scope, number_among}
use Rattle.cpp_blocks.specs.declared.starts.StartOf.{StartOf}
use Rattle.cpp_blocks.specs.declared.starts.BuiltOf.{BuiltOf}
use Rattle.cpp_blocks.specs.Facts.{is_of_run}
use Rattle.cpp_blocks.specs.Nodes.{IsListedBuilt, IsListedStart, IsOfTree}
use Rattle.ut_case.specs.declared.question.Family.{Family}
use Rattle.ut_case.specs.declared.question.Family.TheVariants as family
use Rattle.ut_case.specs.BuiltFormulas.{built_of, enabled_nodes, paths_formula, step_nodes}
use Rattle.ut_case.specs.Names.{module_of}
use Rattle.ut_case.specs.Numbering.{Shared}
use Rattle.ut_case.specs.Posed.{IsPosed}
use Rattle.ut_case.specs.Problem.{Basis, OfTree, OfRules, Problem}
use Rattle.ut_case.specs.StartFormulas.{free_start_of, owners_in, tree_start, rule_start_of, config_start_of, macro_start_of, scope_of, starts_from, symbol_nodes, undeclared_in}
use Rattle.case_laws.proofs.Basics.{joined}
use Rattle.case_laws.proofs.Known.{name_has}
use Rattle.case_laws.proofs.KnownQuestions.{BasisHas, of_basis, tree_node}
use Rattle.case_laws.proofs.Said.{Says, says_is, says_yes}
use Rattle.case_laws.proofs.StartKinds.{BothSay, HasM, HasY, IsBasisItem, StartKind, Free, Config, start_kind, config_said, paths_said}
use Rattle.case_laws.proofs.StartNodes.{OfOwner, one_listed, one_named, start_listed}
use Rattle.case_laws.proofs.TreeCases.{well_made}

-- the formulas of written symbols mention what fits
abbrev pub Owns : Type 0
Owns = (s : Scope) (k : ℕ) → MentionsOwn s k (written_formula s k)

-- ---- items of the basis stand outside the run

pub basis_outside : (b : Basis) (names : List (List ℕ)) (i : Item) → IsBasisItem b names i → is_of_run i ≡ false
basis_outside b names (item.SymY k) h = refl
basis_outside b names (item.SymM k) h = refl
basis_outside b names (item.Undeclared k) h = refl
basis_outside b names (item.Outer k) h = refl
basis_outside b names (item.ModeY k) h = refl
basis_outside b names (item.ModeM k) h = refl
basis_outside b names (item.Same k j) h = refl
basis_outside b names (item.Below k j) h = refl
basis_outside b names (item.StartD file k) h = refl
basis_outside b names (item.StartT file k) h = refl
basis_outside b names (item.Truth file k) h = refl
basis_outside b names (item.Piece file k) h = absurd h
basis_outside b names (item.Line file k) h = absurd h
basis_outside b names (item.Block file k) h = absurd h
basis_outside b names (item.StateD file k turn) h = absurd h
basis_outside b names (item.StateT file k turn) h = absurd h

-- ---- starts

symbols_of_tree : (ks : List ℕ) → AllByRecursion IsOfTree (symbol_nodes ks)
symbols_of_tree [] = tt
symbols_of_tree (k ∷ ks) = (tt, symbols_of_tree ks)

free_listed : (file n : ℕ) → IsListedStart (free_start_of file n)
free_listed file n = start_listed _ [] tt (says_is (λ i. is_of_run i ≡ false) (item.StartD file n) refl) (says_is (λ i. is_of_run i ≡ false) (item.StartT file n) refl)

module _ (owns : Owns) where
  config_listed : (s : Shared) (f : Family) (b : Basis) (file n : ℕ) (macro name : List ℕ) → IsListedStart (config_start_of s f b file n macro name)
  config_listed s f (OfTree t) file n macro name = let h = config_said owns s f (OfTree t) (λ i. is_of_run i ≡ false) (basis_outside (OfTree t) (undeclared_in s f)) file n macro name (λ h. refl) in
      start_listed (tree_start (scope_of s f t) file n name (number_of t name) (module_of t name)) (symbol_nodes (option_to_list (number_of t name) ++ option_to_list (module_of t name)))
      (symbols_of_tree (option_to_list (number_of t name) ++ option_to_list (module_of t name))) h.d_says h.t_says
  config_listed s f (OfRules r) file n macro name = by (number_among r.names macro) (config_said owns s f (OfRules r) (λ i. is_of_run i ≡ false) (basis_outside (OfRules r) (undeclared_in s f)) file n macro name (λ h. refl))
    where
      by : (o : Option ℕ) → BothSay (λ i. is_of_run i ≡ false) (rule_start_of (undeclared_in s f) name o).d (rule_start_of (undeclared_in s f) name o).t → IsListedStart (rule_start_of (undeclared_in s f) name o)
      by None h = start_listed _ [] tt h.d_says h.t_says
      by (Some k) h = start_listed _ (symbol_nodes (k ∷ [])) (tt, tt) h.d_says h.t_says

  kind_listed : (s : Shared) (f : Family) (file n : ℕ) (macro : List ℕ) (start : StartOf) → StartKind s f file n macro start → IsListedStart start
  kind_listed s f file n macro start (Free e starts) = subst IsListedStart (sym e) (free_listed file n)
  kind_listed s f file n macro start (Config other name at e) = subst IsListedStart (sym e) (config_listed s f s.basis file n macro name)

  each_listed : (s : Shared) (f : Family) (file m : ℕ) (macros : List (List ℕ)) → AllByRecursion IsListedStart (starts_from s f file m macros)
  each_listed s f file m [] = tt
  each_listed s f file m (macro ∷ macros) = (kind_listed s f file m macro (macro_start_of s f file m macro) (start_kind s f file m macro), each_listed s f file (suc m) macros)

  pub starts_listed : (s : Shared) (f : Family) (file m : ℕ) (macros : List (List ℕ)) → All IsListedStart (starts_from s f file m macros)
  starts_listed s f file m macros = All-from_recursion IsListedStart (starts_from s f file m macros) (each_listed s f file m macros)

-- ---- when a source is built

-- what holds of the nodes of each step
pub steps_pass : (Q : Node → Type 0) (b : Basis) → ((name : List ℕ) → AllByRecursion Q (enabled_nodes b name)) → (paths : List (List Step)) → AllByRecursion Q (flat_map (flat_map (step_nodes b)) paths)
steps_pass Q b h [] = tt
steps_pass Q b h (path ∷ paths) = joined Q (flat_map (step_nodes b) path) (flat_map (flat_map (step_nodes b)) paths) (of_path path) (steps_pass Q b h paths)
  where
    of_step : (x : Step) → AllByRecursion Q (step_nodes b x)
    of_step (step.On name) = h name
    of_step (step.Free text) = tt

    of_path : (xs : List Step) → AllByRecursion Q (flat_map (step_nodes b) xs)
    of_path [] = tt
    of_path (x ∷ xs) = joined Q (step_nodes b x) (flat_map (step_nodes b) xs) (of_step x) (of_path xs)

enabled_of_tree : (b : Basis) (name : List ℕ) → AllByRecursion IsOfTree (enabled_nodes b name)
enabled_of_tree (OfTree t) name = symbols_of_tree (option_to_list (number_of t name))
enabled_of_tree (OfRules r) name = tt

module _ (s : Shared) where
  paths_listed : (f : Family) (paths : List (List Step)) (names : List Node) (formula : Formula) → AllByRecursion IsOfTree names → Says (λ i. is_of_run i ≡ false) formula
      → (built : BuiltOf) → built ≡ record { formula = formula; names = names ++ owners_in (formula ∷ []); items = loose_items (formula ∷ []) } → IsListedBuilt built
  paths_listed f paths names formula tree says built e = subst IsListedBuilt (sym e) (record {
    nodes = All-from_recursion IsOfTree (names ++ owners_in (formula ∷ [])) (one_named formula names tree says);
    formula = one_listed formula names;
  })

  pub built_listed : (f : Family) (paths : List (List Step)) → IsListedBuilt (built_of s f paths)
  built_listed family.Code paths = record { nodes = All-from_recursion IsOfTree [] tt; formula = λ i h. absurd (says_yes (λ j. ⊥) i h) }
  built_listed family.Kconfig paths = paths_listed family.Kconfig paths (flat_map (flat_map (step_nodes s.basis)) paths) (paths_formula s family.Kconfig paths) (steps_pass IsOfTree s.basis (enabled_of_tree s.basis) paths)
      (paths_said s family.Kconfig (λ i. is_of_run i ≡ false) (basis_outside s.basis (undeclared_in s family.Kconfig)) paths) (built_of s family.Kconfig paths) refl
  built_listed family.Whole paths = paths_listed family.Whole paths (flat_map (flat_map (step_nodes s.basis)) paths) (paths_formula s family.Whole paths) (steps_pass IsOfTree s.basis (enabled_of_tree s.basis) paths)
      (paths_said s family.Whole (λ i. is_of_run i ≡ false) (basis_outside s.basis (undeclared_in s family.Whole)) paths) (built_of s family.Whole paths) refl

-- ---- named nodes have facts of the basis

-- a number past the last symbol counts as neither
trit_within : (t : Shape) → IsWellMade t → (k : ℕ) → IsTrit (counts_as t k) → k < length t.symbols
trit_within t made k h = elim (cases_lt k (length t.symbols)) [
  | inl lt ↦ lt
  | inr past ↦ by (is_the t.modules k) refl past
]
  where
    is_the_one : (o : Option ℕ) → is_the o k ≡ true → o ≡ Some k
    is_the_one None e = absurd (false≢true e)
    is_the_one (Some j) e = ap (λ (n : ℕ). Some n) (equal j k e)
      where
        equal : (a b : ℕ) → eqb a b ≡ true → a ≡ b
        equal a b g = grind (arith, nat_tests)

    by : (b : Bool) → is_the t.modules k ≡ b → length t.symbols ≤ k → k < length t.symbols
    by true e past = made.modules k (is_the_one t.modules e)
    by false e past = absurd (subst IsTrit (ap (λ b. cond b counts.Bool (counts_with t (symbol_at t k).kind (symbol_at t k).member_of)) e
        ∙ ap (λ (x : _). counts_with t x.kind x.member_of) (get_or_past t.symbols k no_symbol past)) h)

module _ (p : Problem) (posed : IsPosed p) (f : Family) (other : f ≡ family.Code → ⊥) where
  -- a symbol or a name that has an item has a fact
  pub symbol_has : (b : Basis) → p.basis ≡ b → (k : ℕ) → HasY b k → BasisHas p f (node.Sym k)
  symbol_has (OfTree t) is k h = tree_node p f other t is (node.Sym k) (trit_within t (well_made p t posed is) k h)
  symbol_has (OfRules r) is k h = name_node f other
    where
      name_node : (g : Family) → (g ≡ family.Code → ⊥) → BasisHas p g (node.Sym k)
      name_node family.Code off = absurd (off refl)
      name_node family.Kconfig off = of_basis p family.Kconfig (OfRules r) is (node.Sym k) (name_has r.names k h)
      name_node family.Whole off = of_basis p family.Whole (OfRules r) is (node.Sym k) (name_has r.names k h)

  m_is_y : (b : Basis) (k : ℕ) → HasM b k → HasY b k
  m_is_y (OfTree t) k h = subst IsTrit (sym h) tt
  m_is_y (OfRules r) k h = absurd h

  pub owner_has : (b : Basis) → p.basis ≡ b → (names : List (List ℕ)) (i : Item) → IsBasisItem b names i → OfOwner (BasisHas p f) i
  owner_has b is names (item.SymY k) h n e = let same : node.Sym k ≡ n = cc in subst (BasisHas p f) same (symbol_has b is k h)
  owner_has b is names (item.SymM k) h n e = let same : node.Sym k ≡ n = cc in subst (BasisHas p f) same (symbol_has b is k (m_is_y b k h))
  owner_has b is names (item.Undeclared k) h n e = absurd (cc)
  owner_has b is names (item.Outer k) h n e = absurd (cc)
  owner_has b is names (item.ModeY k) h n e = absurd h
  owner_has b is names (item.ModeM k) h n e = absurd h
  owner_has b is names (item.Same k j) h n e = absurd h
  owner_has b is names (item.Below k j) h n e = absurd h
  owner_has b is names (item.StartD file k) h n e = absurd h
  owner_has b is names (item.StartT file k) h n e = absurd h
  owner_has b is names (item.Truth file k) h n e = absurd h
  owner_has b is names (item.Piece file k) h n e = absurd h
  owner_has b is names (item.Line file k) h n e = absurd h
  owner_has b is names (item.Block file k) h n e = absurd h
  owner_has b is names (item.StateD file k turn) h n e = absurd h
  owner_has b is names (item.StateT file k turn) h n e = absurd h

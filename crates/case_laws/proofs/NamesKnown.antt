-- The nodes that starts and the condition of a source name have facts of the basis.
use Rattle.std.proofs.Common.{◌≡◌, ℕ, suc, List, [], ◌∷◌, ◌++◌, Option, None, Some, refl, sym, subst}
use Rattle.std.specs.List.{AllByRecursion, flat_map}
use Rattle.std.specs.Option.{option_to_list}
use Rattle.ut_logic.specs.declared.item.Item.TheVariants as item
use Rattle.ut_logic.specs.declared.node.Node.{Node}
use Rattle.ut_logic.specs.declared.node.Node.TheVariants as node
use Rattle.ut_logic.specs.declared.formula.Formula.TheVariants.{Is}
use Rattle.kbuild_paths.specs.declared.step.Step.{Step}
use Rattle.kconf_tree.specs.Shape.{number_of}
use Rattle.kconf_constr.specs.Scope.{number_among}
use Rattle.cpp_blocks.specs.declared.starts.StartOf.{StartOf}
use Rattle.ut_case.specs.declared.question.Family.{Family}
use Rattle.ut_case.specs.declared.question.Family.TheVariants as family
use Rattle.ut_case.specs.BuiltFormulas.{built_of, enabled_nodes, paths_formula, step_nodes}
use Rattle.ut_case.specs.Names.{module_name, module_of}
use Rattle.ut_case.specs.Numbering.{shared}
use Rattle.ut_case.specs.Posed.{IsPosed}
use Rattle.ut_case.specs.Problem.{Basis, OfTree, OfRules, Problem}
use Rattle.ut_case.specs.StartFormulas.{free_start_of, tree_start, rule_start_of, config_start_of, macro_start_of, scope_of, starts_from, owners_in, symbol_nodes, undeclared_in}
use Rattle.case_laws.proofs.KnownQuestions.{BasisHas, tree_node}
use Rattle.case_laws.proofs.Said.{says_is}
use Rattle.case_laws.proofs.StartKinds.{BothSay, StartKind, Free, Config, start_kind, config_said, paths_said, number_below}
use Rattle.case_laws.proofs.StartNodes.{OfOwner, named_pass, of_both_said, of_one_said}
use Rattle.case_laws.proofs.StartsListed.{Owns, owner_has, symbol_has, steps_pass}
use Rattle.case_laws.proofs.TreeCases.{module_within, number_within}

both_symbols : (P : Node → Type 0) (a b : Option ℕ) → ((k : ℕ) → a ≡ Some k → P (node.Sym k)) → ((k : ℕ) → b ≡ Some k → P (node.Sym k)) → AllByRecursion P (symbol_nodes (option_to_list a ++ option_to_list b))
both_symbols P None None h g = tt
both_symbols P None (Some k) h g = (g k refl, tt)
both_symbols P (Some j) None h g = (h j refl, tt)
both_symbols P (Some j) (Some k) h g = (h j refl, (g k refl, tt))

-- a free item has no owner
free_owner : (Q : Node → Type 0) (file n : ℕ) → OfOwner Q (item.StartD file n)
free_owner Q file n m e = absurd (cc)

true_owner : (Q : Node → Type 0) (file n : ℕ) → OfOwner Q (item.StartT file n)
true_owner Q file n m e = absurd (cc)

pub free_known : (Q : Node → Type 0) (file n : ℕ) → AllByRecursion Q (free_start_of file n).names
free_known Q file n = named_pass Q (Is (item.StartD file n) ∷ Is (item.StartT file n) ∷ []) [] tt
    (λ i m. of_both_said (OfOwner Q) (Is (item.StartD file n)) (Is (item.StartT file n)) (says_is (OfOwner Q) (item.StartD file n) (free_owner Q file n)) (says_is (OfOwner Q) (item.StartT file n) (true_owner Q file n)) i m)

module _ (owns : Owns) (p : Problem) (posed : IsPosed p) (f : Family) where
  truth_owner : (file n : ℕ) → OfOwner (BasisHas p f) (item.Truth file n)
  truth_owner file n m e = absurd (cc)

  -- the start of `CONFIG_N`
  config_known : (f ≡ family.Code → ⊥) → (b : Basis) → p.basis ≡ b → (file n : ℕ) (macro name : List ℕ) → AllByRecursion (BasisHas p f) (config_start_of (shared p) f b file n macro name).names
  config_known other (OfTree t) is file n macro name =
      let h = config_said owns (shared p) f (OfTree t) (OfOwner (BasisHas p f)) (owner_has p posed f other (OfTree t) is (undeclared_in (shared p) f)) file n macro name (λ h. truth_owner file n) in
      let fs = tree_start (scope_of (shared p) f t) file n name (number_of t name) (module_of t name) in
      named_pass (BasisHas p f) (fs.d ∷ fs.t ∷ []) (symbol_nodes (option_to_list (number_of t name) ++ option_to_list (module_of t name)))
      (both_symbols (BasisHas p f) (number_of t name) (module_of t name) (λ k e. tree_node p f other t is (node.Sym k) (number_within t name k e))
      (λ k e. tree_node p f other t is (node.Sym k) (module_within t (module_name name) k e)))
      (λ i m. of_both_said (OfOwner (BasisHas p f)) fs.d fs.t h.d_says h.t_says i m)
  config_known other (OfRules r) is file n macro name = by (number_among r.names macro) refl
      (config_said owns (shared p) f (OfRules r) (OfOwner (BasisHas p f)) (owner_has p posed f other (OfRules r) is (undeclared_in (shared p) f)) file n macro name (λ h. truth_owner file n))
    where
      by : (o : Option ℕ) → number_among r.names macro ≡ o → BothSay (OfOwner (BasisHas p f)) (rule_start_of (undeclared_in (shared p) f) name o).d (rule_start_of (undeclared_in (shared p) f) name o).t
          → AllByRecursion (BasisHas p f) (rule_start_of (undeclared_in (shared p) f) name o).names
      by None e h = let start = rule_start_of (undeclared_in (shared p) f) name None in
          named_pass (BasisHas p f) (start.d ∷ start.t ∷ []) [] tt (λ i m. of_both_said (OfOwner (BasisHas p f)) start.d start.t h.d_says h.t_says i m)
      by (Some k) e h = let start = rule_start_of (undeclared_in (shared p) f) name (Some k) in
          named_pass (BasisHas p f) (start.d ∷ start.t ∷ []) (symbol_nodes (k ∷ [])) (symbol_has p posed f other (OfRules r) is k (number_below r.names macro k e), tt)
          (λ i m. of_both_said (OfOwner (BasisHas p f)) start.d start.t h.d_says h.t_says i m)

  kind_known : (file n : ℕ) (macro : List ℕ) (start : StartOf) → StartKind (shared p) f file n macro start → AllByRecursion (BasisHas p f) start.names
  kind_known file n macro start (Free e starts) = subst (λ (s : StartOf). AllByRecursion (BasisHas p f) s.names) (sym e) (free_known (BasisHas p f) file n)
  kind_known file n macro start (Config other name at e) = subst (λ (s : StartOf). AllByRecursion (BasisHas p f) s.names) (sym e) (config_known other p.basis refl file n macro name)

  pub starts_known : (file m : ℕ) (macros : List (List ℕ)) → AllByRecursion (λ (s : StartOf). AllByRecursion (BasisHas p f) s.names) (starts_from (shared p) f file m macros)
  starts_known file m [] = tt
  starts_known file m (macro ∷ macros) = (kind_known file m macro (macro_start_of (shared p) f file m macro) (start_kind (shared p) f file m macro), starts_known file (suc m) macros)

-- ---- when a source is built

-- a name of a step that is declared
pub enabled_known : (p : Problem) (posed : IsPosed p) (f : Family) (other : f ≡ family.Code → ⊥) (b : Basis) → p.basis ≡ b → (name : List ℕ) → AllByRecursion (BasisHas p f) (enabled_nodes b name)
enabled_known p posed f other (OfRules r) is name = tt
enabled_known p posed f other (OfTree t) is name = by (number_of t name) refl
  where
    by : (o : Option ℕ) → number_of t name ≡ o → AllByRecursion (BasisHas p f) (symbol_nodes (option_to_list o))
    by None g = tt
    by (Some k) g = (tree_node p f other t is (node.Sym k) (number_within t name k g), tt)

paths_known : (p : Problem) (posed : IsPosed p) (f : Family) (other : f ≡ family.Code → ⊥) (paths : List (List Step)) → AllByRecursion (BasisHas p f) (flat_map (flat_map (step_nodes p.basis)) paths ++ owners_in (paths_formula (shared p) f paths ∷ []))
paths_known p posed f other paths = named_pass (BasisHas p f) (paths_formula (shared p) f paths ∷ []) (flat_map (flat_map (step_nodes p.basis)) paths) (steps_pass (BasisHas p f) p.basis (enabled_known p posed f other p.basis refl) paths)
    (λ i m. of_one_said (OfOwner (BasisHas p f)) (paths_formula (shared p) f paths) (paths_said (shared p) f (OfOwner (BasisHas p f)) (owner_has p posed f other p.basis refl (undeclared_in (shared p) f)) paths) i m)

pub built_known : (p : Problem) (posed : IsPosed p) (f : Family) (paths : List (List Step)) → AllByRecursion (BasisHas p f) (built_of (shared p) f paths).names
built_known p posed family.Code paths = tt
built_known p posed family.Kconfig paths = paths_known p posed family.Kconfig (λ h. absurd (cc)) paths
built_known p posed family.Whole paths = paths_known p posed family.Whole (λ h. absurd (cc)) paths

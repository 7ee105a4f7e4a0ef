-- Each macro that a source names starts as the formulas of its start say.
use Rattle.std.proofs.Common.{◌≡◌, ℕ, ◌==◌, Bool, false, cond, List, [], ◌∷◌, zero, suc, Option, None, Some, is_some, refl, ap, sym, subst, ◌∙◌, arith}
use Rattle.std.specs.List.{Contains, flat_map}
use Rattle.std.proofs.lemmas.List.Elements.{Contains-append_left, Contains-append_right}
use Rattle.ut_logic.specs.declared.item.Item.{Item}
use Rattle.ut_logic.specs.declared.item.Item.TheVariants as item
use Rattle.ut_logic.proofs.FoldLaws.{truth-Is}
use Rattle.kconf_tree.specs.Shape.{Shape, number_of}
use Rattle.kconf_constr.specs.Scope.{number_among}
use Rattle.cpp_blocks.specs.Mentions.{names_of}
use Rattle.cpp_blocks.specs.declared.starts.StartOf.{StartOf}
use Rattle.cpp_blocks.specs.declared.state.MacroState.{MacroState}
use Rattle.ut_case.specs.declared.question.Family.{Family}
use Rattle.ut_case.specs.declared.question.Family.TheVariants as family
use Rattle.ut_case.specs.Cases.{Case, IsCaseOf}
use Rattle.ut_case.specs.Items.{item_truth}
use Rattle.ut_case.specs.Names.{config_name, module_name, module_of, is_declared}
use Rattle.ut_case.specs.Numbering.{shared, basis_undeclared, macro_undeclared, source_undeclared, step_undeclared}
use Rattle.ut_case.specs.Posed.{IsPosed}
use Rattle.ut_case.specs.Problem.{Basis, OfTree, OfRules, Source, Problem, directives_of}
use Rattle.ut_case.specs.StartFormulas.{scope_of, undeclared_in, tree_start, free_start_of, macro_start_of, named_start_of, config_start_of, rule_start_of}
use Rattle.ut_case.specs.Starts.{free_start, config_start, named_start, macro_start, start_by, rule_start}
use Rattle.case_laws.proofs.Lower.{TruthsAreReadBack}
use Rattle.case_laws.proofs.Starts.{Says, SaysWrittenHere, free, present_defined, present_true, tree_says}
use Rattle.case_laws.proofs.TreeCases.{module_within, reads_back, well_made}

-- ---- a list that is made of the lists of its members

pub contains_flat : {A B : Type 0} (f : A → List B) (xs : List A) (x : A) (y : B) → Contains xs x → Contains (f x) y → Contains (flat_map f xs) y
contains_flat f [] x y h g = absurd (omega (arith, h.1))
contains_flat f (z ∷ zs) x y (zero, l, e) g = Contains-append_left (f z) (flat_map f zs) y (subst (λ u. Contains (f u) y) (sym e) g)
contains_flat f (z ∷ zs) x y (suc k, l, e) g = Contains-append_right (f z) (flat_map f zs) y (contains_flat f zs x y (k, omega arith, e) g)

-- ---- the undeclared name of a macro has a number

module _ (p : Problem) (posed : IsPosed p) (source : Source) (there : Contains p.sources source) (macro : List ℕ) (named : Contains (names_of (directives_of source)) macro) where
  single : (name : List ℕ) → Contains (name ∷ []) name
  single name = (0, omega arith, refl)

  undeclared_here : (o : Option (List ℕ)) (name : List ℕ) → o ≡ Some name → is_declared p.basis macro name ≡ false → Contains (macro_undeclared p.basis macro o) name
  undeclared_here None name e off = absurd (cc)
  undeclared_here (Some other) name e off = subst (λ (n : List ℕ). Contains (cond (is_declared p.basis macro n) [] (n ∷ [])) name) (sym (inner other name e))
      (subst (λ (b : Bool). Contains (cond b [] (name ∷ [])) name) (sym off) (single name))
    where
      of_some : List ℕ → Option (List ℕ) → List ℕ
      of_some d None = d
      of_some d (Some n) = n

      inner : (a b : List ℕ) → Some a ≡ Some b → a ≡ b
      inner a b h = ap (of_some a) h

  pub has_number : (name : List ℕ) → config_name macro ≡ Some name → is_declared p.basis macro name ≡ false → Contains p.undeclared name
  has_number name e off = (posed.numbered.exact name).1 (Contains-append_right (basis_undeclared p.basis) (flat_map (source_undeclared p.basis) p.sources) name
      (contains_flat (source_undeclared p.basis) p.sources source name there
      (Contains-append_left (flat_map (λ (other : List ℕ). macro_undeclared p.basis other (config_name other)) (names_of (directives_of source))) (flat_map (flat_map (step_undeclared p.basis)) source.paths) name
      (contains_flat (λ (other : List ℕ). macro_undeclared p.basis other (config_name other)) (names_of (directives_of source)) macro name named (undeclared_here (config_name macro) name e off)))))

-- ---- the start of a macro

module _ (back : TruthsAreReadBack) (p : Problem) (f : Family) (other : f ≡ family.Code → ⊥) (x : Case) (posed : IsPosed p) (belongs : IsCaseOf p f x)
    (written : (t : Shape) → p.basis ≡ OfTree t → SaysWrittenHere p f x t) (macro : List ℕ) where
  abbrev v : Item → Bool
  v = item_truth p f x

  of_tree : (t : Shape) → p.basis ≡ OfTree t → (file n : ℕ) (name : List ℕ) → (is_declared p.basis macro name ≡ false → Contains p.undeclared name)
      → Says v (tree_start (scope_of (shared p) f t) file n name (number_of t name) (module_of t name)) (start_by t x.configuration (x.environment (item.Truth file n)) name (number_of t name) (module_of t name))
  of_tree t is file n name number = tree_says p f x t (well_made p t posed is) (reads_back p t x posed is back f other belongs) (written t is) file n name (number_of t name) (module_of t name) refl
      (λ k e. module_within t (module_name name) k e)
      (λ off. free p x f other belongs name (number (ap (λ (b : Basis). is_declared b macro name) is ∙ off)))

  of_rule : (file n : ℕ) (name : List ℕ) (names : List (List ℕ)) (o : Option ℕ) → (is_some o ≡ false → Contains p.undeclared name)
      → Says v (record { d = (rule_start_of (undeclared_in (shared p) f) name o).d; t = (rule_start_of (undeclared_in (shared p) f) name o).t }) (rule_start x.configuration name o)
  of_rule file n name names None number = let h = free p x f other belongs name (number refl) in record {
    d = h ∙ sym (present_defined (x.configuration.undeclared name));
    t = h ∙ sym (present_true (x.configuration.undeclared name));
  }
  of_rule file n name names (Some k) number = record {
    d = truth-Is v (item.SymY k) ∙ sym (present_defined (x.configuration.value k == 2));
    t = truth-Is v (item.SymY k) ∙ sym (present_true (x.configuration.value k == 2));
  }

  -- the two formulas of a start as a pair
  abbrev StartSays : StartOf → MacroState → Type 0
  StartSays start state = Says v (record { d = start.d; t = start.t }) state

  of_config : (b : Basis) → p.basis ≡ b → (file n : ℕ) (name : List ℕ) → (is_declared p.basis macro name ≡ false → Contains p.undeclared name)
      → StartSays (config_start_of (shared p) f b file n macro name) (config_start b x.configuration (x.environment (item.Truth file n)) macro name)
  of_config (OfTree t) is file n name number = let r = of_tree t is file n name number in record { d = r.d; t = r.t }
  of_config (OfRules r) is file n name number = of_rule file n name r.names (number_among r.names macro) (λ off. number (ap (λ (b : Basis). is_declared b macro name) is ∙ off))

  of_free : (file n : ℕ) → StartSays (free_start_of file n) (free_start x file n)
  of_free file n = record { d = truth-Is v (item.StartD file n); t = truth-Is v (item.StartT file n) }

  of_named : (file n : ℕ) (o : Option (List ℕ)) → ((name : List ℕ) → o ≡ Some name → is_declared p.basis macro name ≡ false → Contains p.undeclared name)
      → StartSays (named_start_of (shared p) f file n macro o) (named_start p.basis x file n macro o)
  of_named file n None number = of_free file n
  of_named file n (Some name) number = of_config p.basis refl file n name (number name refl)

-- in each family the formulas of a macro that a source of the problem names say how it starts
pub macro_says : (back : TruthsAreReadBack) (p : Problem) (f : Family) (x : Case) (posed : IsPosed p) (belongs : IsCaseOf p f x)
    → ((f ≡ family.Code → ⊥) → (t : Shape) → p.basis ≡ OfTree t → SaysWrittenHere p f x t) → (source : Source) → Contains p.sources source
    → (file n : ℕ) (macro : List ℕ) → Contains (names_of (directives_of source)) macro
    → Says (item_truth p f x) (record { d = (macro_start_of (shared p) f file n macro).d; t = (macro_start_of (shared p) f file n macro).t }) (macro_start p.basis f x file n macro)
macro_says back p family.Code x posed belongs written source there file n macro named = record { d = truth-Is (item_truth p family.Code x) (item.StartD file n); t = truth-Is (item_truth p family.Code x) (item.StartT file n) }
macro_says back p family.Kconfig x posed belongs written source there file n macro named = of_named back p family.Kconfig (λ h. absurd (cc)) x posed belongs (written (λ h. absurd (cc))) macro file n (config_name macro)
    (has_number p posed source there macro named)
macro_says back p family.Whole x posed belongs written source there file n macro named = of_named back p family.Whole (λ h. absurd (cc)) x posed belongs (written (λ h. absurd (cc))) macro file n (config_name macro)
    (has_number p posed source there macro named)

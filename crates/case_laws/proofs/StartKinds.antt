-- The starts of the macros of a source are free, or those of `CONFIG_N`; and which items their formulas mention.
use Rattle.std.proofs.Common.{◌≡◌, ℕ, ◌+◌, ◌<◌, zero, suc, Bool, true, false, not, List, [], ◌∷◌, ◌++◌, length, get_or, map, slice_get, Option, None, Some, is_some, refl, ap, sym, subst, ◌∙◌, arith}
use Rattle.std.specs.Prelude.{codes}
use Rattle.std.proofs.lemmas.List.Quantifiers.{position-Some}
use Rattle.ut_text.specs.Text.{text_eq}
use Rattle.ut_logic.specs.declared.item.Item.{Item}
use Rattle.ut_logic.specs.declared.item.Item.TheVariants as item
use Rattle.ut_logic.specs.declared.formula.Formula.{Formula}
use Rattle.ut_logic.specs.declared.formula.Formula.TheVariants.{No, Is}
use Rattle.ut_logic.specs.Fold.{all_of}
use Rattle.cpp_blocks.specs.declared.starts.StartOf.{StartOf}
use Rattle.kconf_tree.specs.declared.shape.Counts.{Counts}
use Rattle.kconf_tree.specs.declared.shape.Counts.TheVariants as counts
use Rattle.kconf_tree.specs.Shape.{Shape, symbol_at, counts_as, number_of}
use Rattle.kconf_tree.specs.Value.{is_text_or_number}
use Rattle.kconf_constr.specs.Closed.{IsTrit, Fits, IsOwn, MentionsOwn}
use Rattle.kconf_constr.specs.Levels.{own_levels_as, named_levels, undeclared_formula}
use Rattle.kconf_constr.specs.PropertyFormulas.{written_formula}
use Rattle.kconf_constr.specs.Scope.{Scope, number_among}
use Rattle.kbuild_paths.specs.declared.step.Step.{Step}
use Rattle.kbuild_paths.specs.declared.step.Step.TheVariants as step
use Rattle.ut_case.specs.declared.question.Family.{Family}
use Rattle.ut_case.specs.declared.question.Family.TheVariants as family
use Rattle.ut_case.specs.Built.{kbuild_number}
use Rattle.ut_case.specs.BuiltFormulas.{built_of, paths_formula, step_formula, enabled_formula, rule_formula}
use Rattle.ut_case.specs.Environments.{starts_free}
use Rattle.ut_case.specs.Names.{config_name, module_of}
use Rattle.ut_case.specs.Numbering.{Shared}
use Rattle.ut_case.specs.Problem.{Basis, OfTree, OfRules}
use Rattle.ut_case.specs.StartFormulas.{Formulas, present, scope_of, undeclared_in, is_m, is_m_as, neither_start, own_start, own_start_as, tree_start, free_start_of, macro_start_of, named_start_of, config_start_of, rule_start_of, starts_from}
use Rattle.case_laws.proofs.Said.{Says, Say, says_no, says_yes, says_is, says_all, says_any, says_both, say_none, say_more}

-- ---- items of a basis

-- a symbol or a name has an item that it isn't n, or that it is m
abbrev pub HasY : Basis → ℕ → Type 0
HasY (OfTree t) k = IsTrit (counts_as t k)
HasY (OfRules r) k = k < length r.names

abbrev pub HasM : Basis → ℕ → Type 0
HasM (OfTree t) k = counts_as t k ≡ counts.Tristate
HasM (OfRules r) k = ⊥

-- an item of the basis, of an undeclared name, or of an outer condition
abbrev pub IsBasisItem : Basis → List (List ℕ) → Item → Type 0
IsBasisItem b names (item.SymY k) = HasY b k
IsBasisItem b names (item.SymM k) = HasM b k
IsBasisItem b names (item.Undeclared k) = k < length names
IsBasisItem b names (item.Outer k) = Unit {0}
IsBasisItem b names (item.ModeY i) = ⊥
IsBasisItem b names (item.ModeM i) = ⊥
IsBasisItem b names (item.Same sym k) = ⊥
IsBasisItem b names (item.Below sym k) = ⊥
IsBasisItem b names (item.StartD file n) = ⊥
IsBasisItem b names (item.StartT file n) = ⊥
IsBasisItem b names (item.Truth file n) = ⊥
IsBasisItem b names (item.Piece file k) = ⊥
IsBasisItem b names (item.Line file k) = ⊥
IsBasisItem b names (item.Block file k) = ⊥
IsBasisItem b names (item.StateD file n turn) = ⊥
IsBasisItem b names (item.StateT file n turn) = ⊥

-- what the formula of a written symbol mentions
own_item : (s : Scope) (k : ℕ) (i : Item) → Fits s i → IsOwn s k i → IsBasisItem (OfTree s.shape) s.undeclared i
own_item s k (item.SymY j) fit own = fit
own_item s k (item.SymM j) fit own = fit
own_item s k (item.Undeclared j) fit own = fit
own_item s k (item.Outer j) fit own = tt
own_item s k (item.ModeY j) fit own = own
own_item s k (item.ModeM j) fit own = own
own_item s k (item.Same sym j) fit own = own
own_item s k (item.Below sym j) fit own = own
own_item s k (item.StartD file n) fit own = own
own_item s k (item.StartT file n) fit own = own
own_item s k (item.Truth file n) fit own = own
own_item s k (item.Piece file j) fit own = own
own_item s k (item.Line file j) fit own = own
own_item s k (item.Block file j) fit own = own
own_item s k (item.StateD file n turn) fit own = own
own_item s k (item.StateT file n turn) fit own = own

-- a number among names is below their count
pub number_below : (names : List (List ℕ)) (name : List ℕ) (k : ℕ) → number_among names name ≡ Some k → k < length names
number_below names name k e = (position-Some (λ n. text_eq n name) names k [] e).0

-- both formulas of a start mention such items
pub record BothSay (P : Item → Type 0) (d t : Formula) : Type 0 where
  pub d_says : Says P d
  pub t_says : Says P t

-- ---- formulas of a basis

module _ (b : Basis) (names : List (List ℕ)) (P : Item → Type 0) (of : (i : Item) → IsBasisItem b names i → P i) where
  undeclared_said : (o : Option ℕ) → ((k : ℕ) → o ≡ Some k → k < length names) → Says P (undeclared_formula o)
  undeclared_said None h = says_no P
  undeclared_said (Some k) h = says_is P (item.Undeclared k) (of (item.Undeclared k) (h k refl))

  pub name_said : (name : List ℕ) → Says P (undeclared_formula (number_among names name))
  name_said name = undeclared_said (number_among names name) (λ k e. number_below names name k e)

module _ (t : Shape) (names : List (List ℕ)) (P : Item → Type 0) (of : (i : Item) → IsBasisItem (OfTree t) names i → P i) where
  abbrev s : Scope
  s = record { shape = t; undeclared = names }

  level_said : (k : ℕ) (kind : Counts) → counts_as t k ≡ kind → Says P (own_levels_as kind k).not_n
  level_said k counts.Bool e = says_is P (item.SymY k) (of (item.SymY k) (subst IsTrit (sym e) tt))
  level_said k counts.Tristate e = says_any P (Is (item.SymY k) ∷ Is (item.SymM k) ∷ [])
      (says_both P (Is (item.SymY k)) (Is (item.SymM k)) (says_is P (item.SymY k) (of (item.SymY k) (subst IsTrit (sym e) tt))) (says_is P (item.SymM k) (of (item.SymM k) e)))
  level_said k counts.Neither e = says_no P

  pub level_of : (name : List ℕ) (o : Option ℕ) → Says P (named_levels s name o).not_n
  level_of name None = name_said (OfTree t) names P of name
  level_of name (Some k) = level_said k (counts_as t k) refl

  m_said : (k : ℕ) (kind : Counts) → counts_as t k ≡ kind → Says P (is_m_as kind k)
  m_said k counts.Bool e = says_no P
  m_said k counts.Tristate e = says_is P (item.SymM k) (of (item.SymM k) e)
  m_said k counts.Neither e = says_no P

  module _ (owns : (k : ℕ) → MentionsOwn s k (written_formula s k)) where
    written_said : (k : ℕ) → Says P (written_formula s k)
    written_said k i m = let h = owns k i m in of i (own_item s k i h.0 h.1)

    abbrev Both : Formulas → Type 0
    Both f = BothSay P f.d f.t

    same_both : (f : Formula) → Says P f → Both (present f)
    same_both f h = record { d_says = h; t_says = h }

    module _ (file n : ℕ) where
      none_said : (k : ℕ) → (is_text_or_number (symbol_at t k).kind ≡ true → P (item.Truth file n)) → (text : Bool) → is_text_or_number (symbol_at t k).kind ≡ text → Both (neither_start s file n k text)
      none_said k free true e = record {
        d_says = written_said k;
        t_says = says_all P (written_formula s k ∷ Is (item.Truth file n) ∷ []) (says_both P (written_formula s k) (Is (item.Truth file n)) (written_said k) (says_is P (item.Truth file n) (free e)));
      }
      none_said k free false e = same_both No (says_no P)

      own_said : (k : ℕ) → (is_text_or_number (symbol_at t k).kind ≡ true → P (item.Truth file n)) → (kind : Counts) → counts_as t k ≡ kind → Both (own_start_as s file n k kind)
      own_said k free counts.Bool e = same_both (Is (item.SymY k)) (says_is P (item.SymY k) (of (item.SymY k) (subst IsTrit (sym e) tt)))
      own_said k free counts.Tristate e = same_both (Is (item.SymY k)) (says_is P (item.SymY k) (of (item.SymY k) (subst IsTrit (sym e) tt)))
      own_said k free counts.Neither e = none_said k free (is_text_or_number (symbol_at t k).kind) refl

      pub tree_said : (name : List ℕ) (a b : Option ℕ) → ((k : ℕ) → a ≡ Some k → is_text_or_number (symbol_at t k).kind ≡ true → P (item.Truth file n)) → Both (tree_start s file n name a b)
      tree_said name None None free = same_both (undeclared_formula (number_among s.undeclared name)) (name_said (OfTree t) names P of name)
      tree_said name None (Some m) free = same_both (is_m s m) (m_said m (counts_as t m) refl)
      tree_said name (Some k) None free = own_said k (free k refl) (counts_as t k) refl
      tree_said name (Some k) (Some m) free = let own = own_said k (free k refl) (counts_as t k) refl in record {
        d_says = says_any P ((own_start s file n k).d ∷ is_m s m ∷ []) (says_both P (own_start s file n k).d (is_m s m) own.d_says (m_said m (counts_as t m) refl));
        t_says = says_any P ((own_start s file n k).t ∷ is_m s m ∷ []) (says_both P (own_start s file n k).t (is_m s m) own.t_says (m_said m (counts_as t m) refl));
      }

-- the name is that of a symbol of texts or numbers
abbrev pub IsTextOf : Basis → List ℕ → Type 0
IsTextOf (OfTree t) name = (k : ℕ) × (number_of t name ≡ Some k) × (is_text_or_number (symbol_at t k).kind ≡ true)
IsTextOf (OfRules r) name = ⊥

-- the start of `CONFIG_N`
pub config_said : ((s : Scope) (k : ℕ) → MentionsOwn s k (written_formula s k)) → (s : Shared) (f : Family) (b : Basis) (P : Item → Type 0) → ((i : Item) → IsBasisItem b (undeclared_in s f) i → P i)
    → (file n : ℕ) (macro name : List ℕ) → (IsTextOf b name → P (item.Truth file n)) → BothSay P (config_start_of s f b file n macro name).d (config_start_of s f b file n macro name).t
config_said owns s f (OfTree t) P of file n macro name free = let r = tree_said t (undeclared_in s f) P of (owns (scope_of s f t)) file n name (number_of t name) (module_of t name) (λ k e g. free (k, e, g)) in record { d_says = r.d_says; t_says = r.t_says }
config_said owns s f (OfRules r) P of file n macro name free = by (number_among r.names macro) refl
  where
    by : (o : Option ℕ) → number_among r.names macro ≡ o → BothSay P (rule_start_of (undeclared_in s f) name o).d (rule_start_of (undeclared_in s f) name o).t
    by None e = let h = name_said (OfRules r) (undeclared_in s f) P of name in record { d_says = h; t_says = h }
    by (Some k) e = let h = says_is P (item.SymY k) (of (item.SymY k) (number_below r.names macro k e)) in record { d_says = h; t_says = h }

-- ---- the start of a macro

-- a free start, or that of a macro `CONFIG_N`
pub data StartKind (s : Shared) (f : Family) (file n : ℕ) (macro : List ℕ) (start : StartOf) : Type 0 where
  Free : start ≡ free_start_of file n → starts_free f macro ≡ true → StartKind s f file n macro start
  Config : (f ≡ family.Code → ⊥) → (name : List ℕ) → config_name macro ≡ Some name → start ≡ config_start_of s f s.basis file n macro name → StartKind s f file n macro start

module _ (s : Shared) (f : Family) (file n : ℕ) (macro : List ℕ) where
  named_kind : (f ≡ family.Code → ⊥) → starts_free f macro ≡ not (is_some (config_name macro)) → (o : Option (List ℕ)) → config_name macro ≡ o → StartKind s f file n macro (named_start_of s f file n macro o)
  named_kind other starts None e = Free refl (starts ∙ ap (λ (o : Option (List ℕ)). not (is_some o)) e)
  named_kind other starts (Some name) e = Config other name e refl

pub start_kind : (s : Shared) (f : Family) (file n : ℕ) (macro : List ℕ) → StartKind s f file n macro (macro_start_of s f file n macro)
start_kind s family.Code file n macro = Free refl refl
start_kind s family.Kconfig file n macro = named_kind s family.Kconfig file n macro (λ h. absurd (cc)) refl (config_name macro) refl
start_kind s family.Whole file n macro = named_kind s family.Whole file n macro (λ h. absurd (cc)) refl (config_name macro) refl

-- the start at a place is that of the macro there
pub record IsStartAt (s : Shared) (f : Family) (file m : ℕ) (macros : List (List ℕ)) (k : ℕ) (start : StartOf) : Type 0 where
  pub within : k < length macros
  pub same : start ≡ macro_start_of s f file (m + k) (get_or macros k [])

pub start_at : (s : Shared) (f : Family) (file m : ℕ) (macros : List (List ℕ)) (k : ℕ) (start : StartOf) → slice_get (starts_from s f file m macros) k ≡ Some start → IsStartAt s f file m macros k start
start_at s f file m [] k start e = absurd (cc)
start_at s f file m (macro ∷ macros) zero start e = let at : m ≡ m + 0 = omega arith in let is : macro_start_of s f file m macro ≡ start = cc in
    record { within = omega arith; same = sym is ∙ ap (λ n. macro_start_of s f file n macro) at }
start_at s f file m (macro ∷ macros) (suc k) start e = let at : suc m + k ≡ m + suc k = omega arith in let r = start_at s f file (suc m) macros k start e in
    record { within = omega (arith, r.within); same = r.same ∙ ap (λ n. macro_start_of s f file n (get_or macros k [])) at }

-- ---- when a source is built

module _ (s : Shared) (f : Family) (P : Item → Type 0) (of : (i : Item) → IsBasisItem s.basis (undeclared_in s f) i → P i) where
  rule_said : (count : ℕ) → ((k : ℕ) → k < count → P (item.SymY k)) → (o : Option ℕ) → ((k : ℕ) → o ≡ Some k → k < count) → Says P (rule_formula o)
  rule_said count h None lt = says_no P
  rule_said count h (Some k) lt = says_is P (item.SymY k) (h k (lt k refl))

  enabled_in : (b : Basis) → s.basis ≡ b → (name : List ℕ) → Says P (enabled_formula s f b name)
  enabled_in (OfTree t) e name = level_of t (undeclared_in s f) P (λ i h. of i (subst (λ (b : Basis). IsBasisItem b (undeclared_in s f) i) (sym e) h)) name (number_of t name)
  enabled_in (OfRules r) e name = let one = number_among r.names (codes "CONFIG_" ++ name) in let other = number_among r.names (codes "CONFIG_" ++ name ++ codes "_MODULE") in
      let each : (k : ℕ) → k < length r.names → P (item.SymY k) = λ k lt. of (item.SymY k) (subst (λ (b : Basis). HasY b k) (sym e) lt) in
      says_any P (rule_formula one ∷ rule_formula other ∷ []) (says_both P (rule_formula one) (rule_formula other)
      (rule_said (length r.names) each one (λ k g. number_below r.names (codes "CONFIG_" ++ name) k g)) (rule_said (length r.names) each other (λ k g. number_below r.names (codes "CONFIG_" ++ name ++ codes "_MODULE") k g)))

  pub enabled_said : (name : List ℕ) → Says P (enabled_formula s f s.basis name)
  enabled_said name = enabled_in s.basis refl name

  step_said : (x : Step) → Says P (step_formula s f x)
  step_said (step.On name) = enabled_said name
  step_said (step.Free text) = says_is P (item.Outer (kbuild_number s text)) (of (item.Outer (kbuild_number s text)) tt)

  path_said : (path : List Step) → Say P (map (step_formula s f) path)
  path_said [] = say_none P
  path_said (x ∷ xs) = say_more P (step_formula s f x) (map (step_formula s f) xs) (step_said x) (path_said xs)

  each_said : (paths : List (List Step)) → Say P (map (λ path. all_of (map (step_formula s f) path)) paths)
  each_said [] = say_none P
  each_said (path ∷ paths) = say_more P (all_of (map (step_formula s f) path)) (map (λ (other : List Step). all_of (map (step_formula s f) other)) paths)
      (says_all P (map (step_formula s f) path) (path_said path)) (each_said paths)

  pub paths_said : (paths : List (List Step)) → Says P (paths_formula s f paths)
  paths_said paths = says_any P (map (λ path. all_of (map (step_formula s f) path)) paths) (each_said paths)

pub built_said : (s : Shared) (f : Family) (P : Item → Type 0) → ((i : Item) → IsBasisItem s.basis (undeclared_in s f) i → P i) → (paths : List (List Step)) → Says P (built_of s f paths).formula
built_said s family.Code P of paths = says_yes P
built_said s family.Kconfig P of paths = paths_said s family.Kconfig P of paths
built_said s family.Whole P of paths = paths_said s family.Whole P of paths

-- The formulas of starts, and of when a source is built, mention no item of a run; and what makes a macro true makes it
-- defined: what the facts of a source ask of them.
use Rattle.std.proofs.Common.{◌≡◌, ℕ, suc, Bool, true, false, not, ◌&&◌, ◌||◌, List, [], ◌∷◌, ◌++◌, map, length, Option, None, Some, refl, ap, sym, subst, ◌∙◌}
use Rattle.std.specs.Prelude.{codes}
use Rattle.std.specs.List.{list_all}
use Rattle.std.proofs.lemmas.Bool.{false≢true}
use Rattle.std.proofs.lemmas.List.Folds.{list_any-append}
use Rattle.ut_logic.specs.declared.item.Item.{Item}
use Rattle.ut_logic.specs.declared.item.Item.TheVariants as item
use Rattle.ut_logic.specs.declared.formula.Formula.{Formula, out-Formula}
use Rattle.ut_logic.specs.declared.formula.Formula.TheVariants.{Yes, No, Is}
use Rattle.ut_logic.specs.Assign.{is_in}
use Rattle.ut_logic.specs.Fold.{all_of, any_of}
use Rattle.ut_logic.specs.Item.{item_eq}
use Rattle.ut_logic.specs.ItemIdentity.{item_eq-Decides}
use Rattle.ut_logic.specs.Truth.{truth, mentioned, together}
use Rattle.ut_logic.proofs.FoldLaws.{truth-all_of, truth-any_of}
use Rattle.ut_logic.proofs.MentionLaws.{mentioned-Yes, mentioned-No, mentioned-Is, mentioned-all_of, mentioned-any_of}
use Rattle.cpp_blocks.specs.declared.starts.StartOf.{StartOf}
use Rattle.cpp_blocks.specs.Facts.{is_free_at, is_of_run, is_outside, Implies, AreStarts}
use Rattle.kconf_tree.specs.declared.shape.Counts.{Counts}
use Rattle.kconf_tree.specs.declared.shape.Counts.TheVariants as counts
use Rattle.kconf_tree.specs.Shape.{symbol_at, counts_as, number_of}
use Rattle.kconf_tree.specs.Value.{is_text_or_number}
use Rattle.kconf_constr.specs.Closed.{Fits, MentionsOwn}
use Rattle.kconf_constr.specs.Levels.{own_levels_as, named_levels, undeclared_formula}
use Rattle.kconf_constr.specs.PropertyFormulas.{written_formula}
use Rattle.kconf_constr.specs.Scope.{Scope, number_among}
use Rattle.kbuild_paths.specs.declared.step.Step.{Step}
use Rattle.kbuild_paths.specs.declared.step.Step.TheVariants as step
use Rattle.ut_case.specs.declared.question.Family.{Family}
use Rattle.ut_case.specs.declared.question.Family.TheVariants as family
use Rattle.ut_case.specs.Built.{kbuild_number}
use Rattle.ut_case.specs.BuiltFormulas.{built_of, paths_formula, step_formula, enabled_formula, rule_formula}
use Rattle.ut_case.specs.Names.{config_name, module_of}
use Rattle.ut_case.specs.Numbering.{Shared}
use Rattle.ut_case.specs.Problem.{Basis, OfTree, OfRules}
use Rattle.ut_case.specs.StartFormulas.{scope_of, undeclared_in, is_m, is_m_as, neither_start, own_start, own_start_as, tree_start, macro_start_of, named_start_of, config_start_of, rule_start_of, starts_from}
use Rattle.case_laws.proofs.Basics.{and_first, item_layer, same_number}

-- ---- formulas outside the run

-- each item that it mentions is one outside
abbrev pub IsOutside : Formula → Type 0
IsOutside f = (i : Item) → is_in (mentioned f) i ≡ true → is_of_run i ≡ false

-- and so of several
abbrev pub AreOutside : List Formula → Type 0
AreOutside fs = (i : Item) → is_in (together (map mentioned fs)) i ≡ true → is_of_run i ≡ false

items_outside : (xs : List Item) → ((i : Item) → is_in xs i ≡ true → is_of_run i ≡ false) → list_all (λ i. not (is_of_run i)) xs ≡ true
items_outside [] h = refl
items_outside (x ∷ xs) h = let rest = items_outside xs (λ i g. h i (later i g)) in λ i. not (first i) && rest i
  where
    first : is_of_run x ≡ false
    first = h x (ap (λ b. b || is_in xs x) ((item_eq-Decides x x).1 refl))

    later : (i : Item) → is_in xs i ≡ true → is_in (x ∷ xs) i ≡ true
    later i g = by (item_eq x i)
      where
        by : (b : Bool) → (b || is_in xs i) ≡ true
        by true = refl
        by false = g

pub outside_by : (f : Formula) → IsOutside f → is_outside f ≡ true
outside_by f h = items_outside (mentioned f) h

no_outside : IsOutside No
no_outside i h = absurd (false≢true (sym (ap (λ xs. is_in xs i) mentioned-No) ∙ h))

yes_outside : IsOutside Yes
yes_outside i h = absurd (false≢true (sym (ap (λ xs. is_in xs i) mentioned-Yes) ∙ h))

is_outside_item : (x : Item) → is_of_run x ≡ false → IsOutside (Is x)
is_outside_item x off i h = by (item_eq x i) refl (sym (ap (λ xs. is_in xs i) (mentioned-Is x)) ∙ h)
  where
    by : (b : Bool) → item_eq x i ≡ b → (b || false) ≡ true → is_of_run i ≡ false
    by true e g = ap is_of_run (sym ((item_eq-Decides x i).0 e)) ∙ off
    by false e g = absurd (false≢true g)

none_outside : AreOutside []
none_outside i h = absurd (false≢true h)

more_outside : (f : Formula) (fs : List Formula) → IsOutside f → AreOutside fs → AreOutside (f ∷ fs)
more_outside f fs h g i m = by (is_in (mentioned f) i) refl (sym (list_any-append (λ x. item_eq x i) (mentioned f) (together (map mentioned fs))) ∙ m)
  where
    by : (b : Bool) → is_in (mentioned f) i ≡ b → (b || is_in (together (map mentioned fs)) i) ≡ true → is_of_run i ≡ false
    by true e k = h i e
    by false e k = g i k

all_outside : (fs : List Formula) → AreOutside fs → IsOutside (all_of fs)
all_outside fs h i g = h i (mentioned-all_of fs i g)

any_outside : (fs : List Formula) → AreOutside fs → IsOutside (any_of fs)
any_outside fs h i g = h i (mentioned-any_of fs i g)

-- ---- starts

-- the formulas of a start are outside, and what makes it true makes it defined
pub record IsStart (d t : Formula) : Type 0 where
  pub d_outside : IsOutside d
  pub t_outside : IsOutside t
  pub implies : (v : Item → Bool) → truth v t ≡ true → truth v d ≡ true

-- a free start, or one whose formulas imply each other
pub record IsGiven (file n : ℕ) (start : StartOf) : Type 0 where
  pub d_outside : IsOutside start.d
  pub t_outside : IsOutside start.t
  pub implies : Implies file n start

present_start : (f : Formula) → IsOutside f → IsStart f f
present_start f h = record { d_outside = h; t_outside = h; implies = λ v g. g }

undeclared_outside : (o : Option ℕ) → IsOutside (undeclared_formula o)
undeclared_outside None = no_outside
undeclared_outside (Some k) = is_outside_item (item.Undeclared k) refl

m_outside : (kind : Counts) (k : ℕ) → IsOutside (is_m_as kind k)
m_outside counts.Bool k = no_outside
m_outside counts.Tristate k = is_outside_item (item.SymM k) refl
m_outside counts.Neither k = no_outside

-- an item that fits a tree
fits_outside : (s : Scope) (i : Item) → Fits s i → is_of_run i ≡ false
fits_outside s (item.SymY k) h = refl
fits_outside s (item.SymM k) h = refl
fits_outside s (item.Undeclared k) h = refl
fits_outside s (item.ModeY k) h = refl
fits_outside s (item.ModeM k) h = refl
fits_outside s (item.Outer k) h = refl
fits_outside s (item.Same sym k) h = refl
fits_outside s (item.Below sym k) h = refl
fits_outside s (item.StartD file n) h = refl
fits_outside s (item.StartT file n) h = refl
fits_outside s (item.Truth file n) h = refl
fits_outside s (item.Piece file k) h = absurd h
fits_outside s (item.Line file k) h = absurd h
fits_outside s (item.Block file k) h = absurd h
fits_outside s (item.StateD file n turn) h = absurd h
fits_outside s (item.StateT file n turn) h = absurd h

module _ (owns : (s : Scope) (k : ℕ) → MentionsOwn s k (written_formula s k)) where
  written_outside : (s : Scope) (k : ℕ) → IsOutside (written_formula s k)
  written_outside s k i h = fits_outside s i (owns s k i h).0

  text_is : (s : Scope) (file n k : ℕ) → IsStart (written_formula s k) (all_of (written_formula s k ∷ Is (item.Truth file n) ∷ []))
  text_is s file n k = record {
    d_outside = written_outside s k;
    t_outside = all_outside (written_formula s k ∷ Is (item.Truth file n) ∷ [])
        (more_outside (written_formula s k) (Is (item.Truth file n) ∷ []) (written_outside s k) (more_outside (Is (item.Truth file n)) [] (is_outside_item (item.Truth file n) refl) none_outside));
    implies = λ v h. and_first (truth v (written_formula s k)) (truth v (Is (item.Truth file n)) && true) (sym (truth-all_of v (written_formula s k ∷ Is (item.Truth file n) ∷ [])) ∙ h);
  }

  none_is : (s : Scope) (file n k : ℕ) (text : Bool) → IsStart (neither_start s file n k text).d (neither_start s file n k text).t
  none_is s file n k true = text_is s file n k
  none_is s file n k false = present_start No no_outside

  own_is : (s : Scope) (file n k : ℕ) (kind : Counts) → IsStart (own_start_as s file n k kind).d (own_start_as s file n k kind).t
  own_is s file n k counts.Bool = present_start (Is (item.SymY k)) (is_outside_item (item.SymY k) refl)
  own_is s file n k counts.Tristate = present_start (Is (item.SymY k)) (is_outside_item (item.SymY k) refl)
  own_is s file n k counts.Neither = none_is s file n k (is_text_or_number (symbol_at s.shape k).kind)

  either_is : (d t m : Formula) → IsStart d t → IsOutside m → IsStart (any_of (d ∷ m ∷ [])) (any_of (t ∷ m ∷ []))
  either_is d t m h g = record {
    d_outside = any_outside (d ∷ m ∷ []) (more_outside d (m ∷ []) h.d_outside (more_outside m [] g none_outside));
    t_outside = any_outside (t ∷ m ∷ []) (more_outside t (m ∷ []) h.t_outside (more_outside m [] g none_outside));
    implies = λ v k. truth-any_of v (d ∷ m ∷ []) ∙ or_more (truth v t) (truth v d) (truth v m || false) (h.implies v) (sym (truth-any_of v (t ∷ m ∷ [])) ∙ k);
  }
    where
      or_more : (a b c : Bool) → (a ≡ true → b ≡ true) → (a || c) ≡ true → (b || c) ≡ true
      or_more true b c f k = ap (λ z. z || c) (f refl)
      or_more false true c f k = refl
      or_more false false c f k = k

  tree_is : (s : Scope) (file n : ℕ) (name : List ℕ) (a b : Option ℕ) → IsStart (tree_start s file n name a b).d (tree_start s file n name a b).t
  tree_is s file n name None None = present_start (undeclared_formula (number_among s.undeclared name)) (undeclared_outside (number_among s.undeclared name))
  tree_is s file n name None (Some m) = present_start (is_m s m) (m_outside (counts_as s.shape m) m)
  tree_is s file n name (Some k) None = own_is s file n k (counts_as s.shape k)
  tree_is s file n name (Some k) (Some m) = either_is (own_start s file n k).d (own_start s file n k).t (is_m s m) (own_is s file n k (counts_as s.shape k)) (m_outside (counts_as s.shape m) m)

  rule_is : (names : List (List ℕ)) (name : List ℕ) (o : Option ℕ) → IsStart (rule_start_of names name o).d (rule_start_of names name o).t
  rule_is names name None = present_start (undeclared_formula (number_among names name)) (undeclared_outside (number_among names name))
  rule_is names name (Some k) = present_start (Is (item.SymY k)) (is_outside_item (item.SymY k) refl)

  config_is : (s : Shared) (f : Family) (b : Basis) (file n : ℕ) (macro name : List ℕ) → IsStart (config_start_of s f b file n macro name).d (config_start_of s f b file n macro name).t
  config_is s f (OfTree t) file n macro name = tree_is (scope_of s f t) file n name (number_of t name) (module_of t name)
  config_is s f (OfRules r) file n macro name = rule_is (undeclared_in s f) name (number_among r.names macro)

  given_by : (file n : ℕ) (start : StartOf) → IsStart start.d start.t → IsGiven file n start
  given_by file n start h = record { d_outside = h.d_outside; t_outside = h.t_outside; implies = λ off v. h.implies v }

  free_given : (file n : ℕ) (start : StartOf) → start.d ≡ Is (item.StartD file n) → start.t ≡ Is (item.StartT file n) → IsGiven file n start
  free_given file n start d t = record {
    d_outside = subst IsOutside (sym d) (is_outside_item (item.StartD file n) refl);
    t_outside = subst IsOutside (sym t) (is_outside_item (item.StartT file n) refl);
    implies = λ off. absurd (false≢true (sym off ∙ (ap (λ (f : Formula). is_free_at file n (out-Formula f)) d ∙ (ap (is_free_at file n) (item_layer (item.StartD file n)) ∙ (λ i. same_number file i && same_number n i)))));
  }

  named_given : (s : Shared) (f : Family) (file n : ℕ) (macro : List ℕ) (o : Option (List ℕ)) → IsGiven file n (named_start_of s f file n macro o)
  named_given s f file n macro None = free_given file n (named_start_of s f file n macro None) refl refl
  named_given s f file n macro (Some name) = given_by file n (config_start_of s f s.basis file n macro name) (config_is s f s.basis file n macro name)

  macro_given : (s : Shared) (f : Family) (file n : ℕ) (macro : List ℕ) → IsGiven file n (macro_start_of s f file n macro)
  macro_given s family.Code file n macro = free_given file n (macro_start_of s family.Code file n macro) refl refl
  macro_given s family.Kconfig file n macro = named_given s family.Kconfig file n macro (config_name macro)
  macro_given s family.Whole file n macro = named_given s family.Whole file n macro (config_name macro)

  pub are_starts : (s : Shared) (f : Family) (file m : ℕ) (macros : List (List ℕ)) → AreStarts file m (starts_from s f file m macros)
  are_starts s f file m [] = tt
  are_starts s f file m (macro ∷ macros) = let h = macro_given s f file m macro in
      (outside_by (macro_start_of s f file m macro).d h.d_outside, outside_by (macro_start_of s f file m macro).t h.t_outside, h.implies, are_starts s f file (suc m) macros)

-- one start for each name
pub starts_count : (s : Shared) (f : Family) (file m : ℕ) (macros : List (List ℕ)) → length (starts_from s f file m macros) ≡ length macros
starts_count s f file m [] = refl
starts_count s f file m (macro ∷ macros) = ap suc (starts_count s f file (suc m) macros)

-- ---- when a source is built

level_outside : (kind : Counts) (k : ℕ) → IsOutside (own_levels_as kind k).not_n
level_outside counts.Bool k = is_outside_item (item.SymY k) refl
level_outside counts.Tristate k = any_outside (Is (item.SymY k) ∷ Is (item.SymM k) ∷ [])
    (more_outside (Is (item.SymY k)) (Is (item.SymM k) ∷ []) (is_outside_item (item.SymY k) refl) (more_outside (Is (item.SymM k)) [] (is_outside_item (item.SymM k) refl) none_outside))
level_outside counts.Neither k = no_outside

name_outside : (s : Scope) (name : List ℕ) (o : Option ℕ) → IsOutside (named_levels s name o).not_n
name_outside s name None = undeclared_outside (number_among s.undeclared name)
name_outside s name (Some k) = level_outside (counts_as s.shape k) k

rule_outside : (o : Option ℕ) → IsOutside (rule_formula o)
rule_outside None = no_outside
rule_outside (Some k) = is_outside_item (item.SymY k) refl

enabled_outside : (s : Shared) (f : Family) (b : Basis) (name : List ℕ) → IsOutside (enabled_formula s f b name)
enabled_outside s f (OfTree t) name = name_outside (scope_of s f t) name (number_of t name)
enabled_outside s f (OfRules r) name = let one = rule_formula (number_among r.names (codes "CONFIG_" ++ name)) in let other = rule_formula (number_among r.names (codes "CONFIG_" ++ name ++ codes "_MODULE")) in
    any_outside (one ∷ other ∷ []) (more_outside one (other ∷ []) (rule_outside (number_among r.names (codes "CONFIG_" ++ name)))
    (more_outside other [] (rule_outside (number_among r.names (codes "CONFIG_" ++ name ++ codes "_MODULE"))) none_outside))

step_outside : (s : Shared) (f : Family) (x : Step) → IsOutside (step_formula s f x)
step_outside s f (step.On name) = enabled_outside s f s.basis name
step_outside s f (step.Free text) = is_outside_item (item.Outer (kbuild_number s text)) refl

path_outside : (s : Shared) (f : Family) (path : List Step) → AreOutside (map (step_formula s f) path)
path_outside s f [] = none_outside
path_outside s f (x ∷ xs) = more_outside (step_formula s f x) (map (step_formula s f) xs) (step_outside s f x) (path_outside s f xs)

paths_outside : (s : Shared) (f : Family) (paths : List (List Step)) → AreOutside (map (λ path. all_of (map (step_formula s f) path)) paths)
paths_outside s f [] = none_outside
paths_outside s f (path ∷ paths) = more_outside (all_of (map (step_formula s f) path)) (map (λ (other : List Step). all_of (map (step_formula s f) other)) paths)
    (all_outside (map (step_formula s f) path) (path_outside s f path)) (paths_outside s f paths)

pub built_outside : (s : Shared) (f : Family) (paths : List (List Step)) → is_outside (built_of s f paths).formula ≡ true
built_outside s family.Code paths = outside_by Yes yes_outside
built_outside s family.Kconfig paths = outside_by (paths_formula s family.Kconfig paths) (any_outside (map (λ path. all_of (map (step_formula s family.Kconfig) path)) paths) (paths_outside s family.Kconfig paths))
built_outside s family.Whole paths = outside_by (paths_formula s family.Whole paths) (any_outside (map (λ path. all_of (map (step_formula s family.Whole) path)) paths) (paths_outside s family.Whole paths))

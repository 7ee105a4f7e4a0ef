-- The formulas of the start of a macro say what it is in a case.
use Rattle.std.proofs.Common.{◌≡◌, ℕ, ◌==◌, ◌<◌, Bool, true, false, not, ◌&&◌, ◌||◌, cond, List, [], ◌∷◌, length, zero, suc, Option, None, Some, is_some, refl, ap, sym, ◌∙◌, arith}
use Rattle.std.specs.Prelude.{slice_index_or}
use Rattle.std.specs.List.{Contains, list_any}
use Rattle.std.proofs.lemmas.List.Quantifiers.{position-Some}
use Rattle.ut_text.specs.Text.{text_eq, text_eq-exact, text_equiv}
use Rattle.ut_logic.specs.declared.item.Item.{Item}
use Rattle.ut_logic.specs.declared.item.Item.TheVariants as item
use Rattle.ut_logic.specs.declared.formula.Formula.TheVariants.{Is}
use Rattle.ut_logic.specs.Truth.{truth}
use Rattle.ut_logic.proofs.FoldLaws.{truth-all_of, truth-any_of, truth-Is, truth-No}
use Rattle.kconf_tree.specs.declared.shape.Counts.{Counts}
use Rattle.kconf_tree.specs.declared.shape.Counts.TheVariants as counts
use Rattle.kconf_tree.specs.Looks.{AreSameIn}
use Rattle.kconf_tree.specs.Properties.{is_written, visibility_of}
use Rattle.kconf_tree.specs.Shape.{Shape, symbol_at, counts_as, number_of}
use Rattle.kconf_tree.specs.Value.{is_text_or_number, stands_for, value_of}
use Rattle.kconf_tree.specs.WellMade.{IsWellMade}
use Rattle.kconf_tree.proofs.Places.{position_found}
use Rattle.kconf_constr.specs.Levels.{undeclared_formula}
use Rattle.kconf_constr.specs.PropertyFormulas.{written_formula}
use Rattle.kconf_constr.specs.Scope.{Scope, number_among}
use Rattle.kconf_constr.specs.Stands.{truths_of, read_off}
use Rattle.cpp_blocks.specs.declared.state.MacroState.{MacroState}
use Rattle.cpp_blocks.specs.declared.state.MacroState.TheVariants.{Undefined, DefinedTrue}
use Rattle.cpp_blocks.specs.Run.{is_defined, is_true}
use Rattle.ut_case.specs.declared.question.Family.{Family}
use Rattle.ut_case.specs.declared.question.Family.TheVariants as family
use Rattle.ut_case.specs.Cases.{Case, IsCaseOf}
use Rattle.ut_case.specs.Items.{item_truth}
use Rattle.ut_case.specs.Numbering.{shared}
use Rattle.ut_case.specs.Problem.{Problem}
use Rattle.ut_case.specs.StartFormulas.{Formulas, undeclared_in, scope_of, is_m, is_m_as, neither_start, own_start, own_start_as, tree_start}
use Rattle.ut_case.specs.Starts.{has_value, defined_as, present_if, start_by}
use Rattle.case_laws.proofs.TreeCases.{value_is}

-- ---- states by truths

defined_by : (on w b u : Bool) → is_defined (cond on DefinedTrue (cond w (defined_as b) (cond true Undefined (present_if u)))) ≡ (on || w)
defined_by true w b u = refl
defined_by false true true u = refl
defined_by false true false u = refl
defined_by false false b u = refl

true_by : (on w b u : Bool) → is_true (cond on DefinedTrue (cond w (defined_as b) (cond true Undefined (present_if u)))) ≡ (on || (w && b))
true_by true w b u = refl
true_by false true true u = refl
true_by false true false u = refl
true_by false false b u = refl

pub present_defined : (u : Bool) → is_defined (present_if u) ≡ u
present_defined true = refl
present_defined false = refl

pub present_true : (u : Bool) → is_true (present_if u) ≡ u
present_true true = refl
present_true false = refl

or_off : (a : Bool) → (a || false) ≡ a
or_off true = refl
or_off false = refl

and_on : (a : Bool) → (a && true) ≡ a
and_on true = refl
and_on false = refl

-- own part or m: two truths joined
joined : (y m w : Bool) → ((y || w) || (m || false)) ≡ ((y || m) || w)
joined true m w = refl
joined false true true = refl
joined false true false = refl
joined false false true = refl
joined false false false = refl

-- a value that is y or n isn't m
two_not_m : (x : ℕ) (a : Bool) → x ≡ cond a 2 0 → false ≡ (x == 1)
two_not_m x true h = sym (ap (λ (y : ℕ). y == 1) h)
two_not_m x false h = sym (ap (λ (y : ℕ). y == 1) h)

-- ---- undeclared names

list_has : (names : List (List ℕ)) (name : List ℕ) → Contains names name → list_any (λ n. text_eq n name) names ≡ true
list_has names name h = by_place names h
  where
    use_front : (a b : Bool) → a ≡ true → (a || b) ≡ true
    use_front a b h = ap (λ c. c || b) h

    use_back : (a b : Bool) → b ≡ true → (a || b) ≡ true
    use_back true b h = refl
    use_back false b h = h

    by_place : (xs : List (List ℕ)) → Contains xs name → list_any (λ n. text_eq n name) xs ≡ true
    by_place [] (k, l, e) = absurd (omega (arith, l))
    by_place (x ∷ xs) (zero, l, e) = use_front (text_eq x name) (list_any (λ n. text_eq n name) xs) (ap (λ y. text_eq y name) e ∙ text_equiv.refl name)
    by_place (x ∷ xs) (suc k, l, e) = use_back (text_eq x name) (list_any (λ n. text_eq n name) xs) (by_place xs (k, omega arith, e))

-- a listed name has a number
numbered : (names : List (List ℕ)) (name : List ℕ) → Contains names name → number_among names name ≡ None → ⊥
numbered names name h e = let found = position_found (λ n. text_eq n name) names (list_has names name h) in absurd (cc)

module _ (p : Problem) (x : Case) where
  -- by its number
  by_number : (name : List ℕ) (o : Option ℕ) → number_among p.undeclared name ≡ o → Contains p.undeclared name → truth (item_truth p family.Kconfig x) (undeclared_formula o) ≡ x.configuration.undeclared name
  by_number name None e there = absurd (numbered p.undeclared name there e)
  by_number name (Some k) e there = truth-Is (item_truth p family.Kconfig x) (item.Undeclared k)
      ∙ ap x.configuration.undeclared (text_eq-exact (slice_index_or p.undeclared k []) name (position-Some (λ n. text_eq n name) p.undeclared k [] e).1)

  -- a numbered name has the truth that the configuration gives it
  pub free : (f : Family) → (f ≡ family.Code → ⊥) → IsCaseOf p f x → (name : List ℕ) → Contains p.undeclared name
      → truth (item_truth p f x) (undeclared_formula (number_among (undeclared_in (shared p) f) name)) ≡ x.configuration.undeclared name
  free family.Code other belongs name there = absurd (other refl)
  free family.Kconfig other belongs name there = by_number name (number_among p.undeclared name) refl there
  free family.Whole other belongs name there = truth-No (item_truth p family.Whole x) ∙ sym (belongs.1 name)

-- ---- what is said

-- the formulas say what the state is
pub record Says (v : Item → Bool) (f : Formulas) (state : MacroState) : Type 0 where
  pub d : truth v f.d ≡ is_defined state
  pub t : truth v f.t ≡ is_true state

-- a symbol's own part: where it is on, or written, it is defined; where it is on, or written and true, it is true
pub record IsOwn (v : Item → Bool) (f : Formulas) (on written truth_there : Bool) : Type 0 where
  pub d : truth v f.d ≡ (on || written)
  pub t : truth v f.t ≡ (on || (written && truth_there))

-- ---- over a tree

-- the truth of a symbol that it is written, by its truths and by the configuration
abbrev pub SaysWrittenHere : Problem → Family → Case → Shape → Type 0
SaysWrittenHere p f x t = (k : ℕ) → is_text_or_number (symbol_at t k).kind ≡ true → truth (item_truth p f x) (written_formula (scope_of (shared p) f t) k) ≡ is_written t x.configuration k

module _ (p : Problem) (f : Family) (x : Case) (t : Shape) (made : IsWellMade t)
    (same : AreSameIn t x.configuration (read_off (scope_of (shared p) f t) (truths_of (scope_of (shared p) f t) x.configuration)))
    (written : SaysWrittenHere p f x t) where
  abbrev v : Item → Bool
  v = item_truth p f x

  abbrev s : Scope
  s = scope_of (shared p) f t

  abbrev y : ℕ → Bool
  y k = has_value t x.configuration 2 (Some k)

  abbrev m : ℕ → Bool
  m k = has_value t x.configuration 1 (Some k)

  abbrev w : ℕ → Bool
  w k = is_written t x.configuration k

  m_as : (k : ℕ) → k < length t.symbols → (kind : Counts) → counts_as t k ≡ kind → truth v (is_m_as kind k) ≡ (stands_for kind (x.configuration.value k) == 1)
  m_as k lt counts.Bool e = truth-No v ∙ two_not_m (x.configuration.value k) (x.configuration.value k == 2) (value_is p f x s same k lt counts.Bool e)
  m_as k lt counts.Tristate e = truth-Is v (item.SymM k)
  m_as k lt counts.Neither e = truth-No v

  m_says : (k : ℕ) → k < length t.symbols → truth v (is_m s k) ≡ m k
  m_says k lt = m_as k lt (counts_as t k) refl

  -- a symbol that has no texts or numbers isn't written
  unwritten : (k : ℕ) → is_text_or_number (symbol_at t k).kind ≡ false → w k ≡ false
  unwritten k e = ap (λ b. b && (not (visibility_of t x.configuration k == 0) || list_any (λ d. not (value_of t x.configuration d.cond == 0)) (symbol_at t k).defaults)) e

  trit_unwritten : (k : ℕ) (kind : Counts) → counts_as t k ≡ kind → (kind ≡ counts.Neither → ⊥) → w k ≡ false
  trit_unwritten k kind e other = by (is_text_or_number (symbol_at t k).kind) refl
    where
      by : (b : Bool) → is_text_or_number (symbol_at t k).kind ≡ b → w k ≡ false
      by true g = absurd (other (sym e ∙ made.texts k g))
      by false g = unwritten k g

  abbrev Own : ℕ → ℕ → ℕ → Formulas → Bool → Type 0
  Own file n k f on = IsOwn v f on (w k) (v (item.Truth file n))

  y_start : (file n k : ℕ) → w k ≡ false → Own file n k (record { d = Is (item.SymY k); t = Is (item.SymY k) }) (x.configuration.value k == 2)
  y_start file n k off = record {
    d = truth-Is v (item.SymY k) ∙ (sym (or_off (x.configuration.value k == 2)) ∙ (λ i. (x.configuration.value k == 2) || sym off i));
    t = truth-Is v (item.SymY k) ∙ (sym (or_off (x.configuration.value k == 2)) ∙ (λ i. (x.configuration.value k == 2) || (sym off i && v (item.Truth file n))));
  }

  none_start : (file n k : ℕ) (text : Bool) → is_text_or_number (symbol_at t k).kind ≡ text → Own file n k (neither_start s file n k text) false
  none_start file n k true e = record {
    d = written k e;
    t = truth-all_of v (written_formula s k ∷ Is (item.Truth file n) ∷ [])
        ∙ ((λ i. written k e i && (truth-Is v (item.Truth file n) i && true)) ∙ (λ i. w k && and_on (v (item.Truth file n)) i));
  }
  none_start file n k false e = record {
    d = truth-No v ∙ sym (unwritten k e);
    t = truth-No v ∙ (λ i. sym (unwritten k e) i && v (item.Truth file n));
  }

  own_as : (file n k : ℕ) (kind : Counts) → counts_as t k ≡ kind → Own file n k (own_start_as s file n k kind) (stands_for kind (x.configuration.value k) == 2)
  own_as file n k counts.Bool e = y_start file n k (trit_unwritten k counts.Bool e (λ h. absurd (cc)))
  own_as file n k counts.Tristate e = y_start file n k (trit_unwritten k counts.Tristate e (λ h. absurd (cc)))
  own_as file n k counts.Neither e = none_start file n k (is_text_or_number (symbol_at t k).kind) refl

  own_says : (file n k : ℕ) → Own file n k (own_start s file n k) (y k)
  own_says file n k = own_as file n k (counts_as t k) refl

  pub tree_says : (file n : ℕ) (name : List ℕ) (a b : Option ℕ) → number_of t name ≡ a → ((k : ℕ) → b ≡ Some k → k < length t.symbols)
      → ((is_some a || is_some b) ≡ false → truth v (undeclared_formula (number_among s.undeclared name)) ≡ x.configuration.undeclared name)
      → Says v (tree_start s file n name a b) (start_by t x.configuration (v (item.Truth file n)) name a b)
  tree_says file n name None None e lt free = record {
    d = free refl ∙ sym (present_defined (x.configuration.undeclared name));
    t = free refl ∙ sym (present_true (x.configuration.undeclared name));
  }
  tree_says file n name None (Some k) e lt free = record {
    d = m_says k (lt k refl) ∙ (sym (or_off (m k)) ∙ sym (defined_by (m k) false (v (item.Truth file n)) (x.configuration.undeclared name)));
    t = m_says k (lt k refl) ∙ (sym (or_off (m k)) ∙ sym (true_by (m k) false (v (item.Truth file n)) (x.configuration.undeclared name)));
  }
  tree_says file n name (Some k) None e lt free = let own = own_says file n k in record {
    d = own.d ∙ ((λ i. sym (or_off (y k)) i || w k) ∙ sym (defined_by (y k || false) (w k) (v (item.Truth file n)) (x.configuration.undeclared name)));
    t = own.t ∙ ((λ i. sym (or_off (y k)) i || (w k && v (item.Truth file n))) ∙ sym (true_by (y k || false) (w k) (v (item.Truth file n)) (x.configuration.undeclared name)));
  }
  tree_says file n name (Some k) (Some j) e lt free = let own = own_says file n k in record {
    d = truth-any_of v ((own_start s file n k).d ∷ is_m s j ∷ []) ∙ ((λ i. own.d i || (m_says j (lt j refl) i || false)) ∙ (joined (y k) (m j) (w k)
        ∙ sym (defined_by (y k || m j) (w k) (v (item.Truth file n)) (x.configuration.undeclared name))));
    t = truth-any_of v ((own_start s file n k).t ∷ is_m s j ∷ []) ∙ ((λ i. own.t i || (m_says j (lt j refl) i || false)) ∙ (joined (y k) (m j) (w k && v (item.Truth file n))
        ∙ sym (true_by (y k || m j) (w k) (v (item.Truth file n)) (x.configuration.undeclared name))));
  }

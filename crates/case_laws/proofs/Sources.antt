-- The truths of a case are those of the runs of its sources, and so they meet the facts of sources.
use Rattle.std.proofs.Common.{◌≡◌, ℕ, ◌+◌, ◌<◌, zero, suc, Bool, true, false, cond, List, [], ◌∷◌, length, get_or, Option, None, Some, position, nat_lt, refl, ap, sym, ◌∙◌, inl, inr, arith}
use Rattle.std.specs.Prelude.{slice_get}
use Rattle.std.specs.List.{list_any, position_or_len}
use Rattle.std.proofs.lemmas.Bool.{false≢true}
use Rattle.std.proofs.lemmas.List.Quantifiers.{position-Some}
use Rattle.ut_text.specs.Text.{text_eq, text_eq-exact}
use Rattle.ut_logic.specs.declared.item.Item.{Item}
use Rattle.ut_logic.specs.Facts.{MeetsAll}
use Rattle.ut_logic.specs.Truth.{truth}
use Rattle.kconf_tree.proofs.Places.{position_found, no_place}
use Rattle.cpp_directives.specs.declared.directive.Directive.{Directive}
use Rattle.cpp_directives.specs.WellFormed.{IsWellFormed}
use Rattle.cpp_blocks.specs.declared.starts.StartOf.{StartOf}
use Rattle.cpp_blocks.specs.declared.starts.BuiltOf.{BuiltOf}
use Rattle.cpp_blocks.specs.declared.state.MacroState.{MacroState}
use Rattle.cpp_blocks.specs.declared.state.MacroState.TheVariants.{Undefined, DefinedFalse, DefinedTrue}
use Rattle.cpp_blocks.specs.Facts.{AreStarts, is_outside}
use Rattle.cpp_blocks.specs.Formulas.{Source as Numbers, source_of}
use Rattle.cpp_blocks.specs.Mentions.{names_of}
use Rattle.cpp_blocks.specs.Run.{Start, is_defined, is_true, is_on_in}
use Rattle.cpp_blocks.specs.Solution.{state_of, start_state, start_of, states_of, IsRun, AreStates}
use Rattle.ut_case.specs.declared.question.Family.{Family}
use Rattle.ut_case.specs.Built.{is_built}
use Rattle.ut_case.specs.BuiltFormulas.{built_of}
use Rattle.ut_case.specs.Cases.{Case}
use Rattle.ut_case.specs.Facts.{source_facts}
use Rattle.ut_case.specs.Items.{item_truth}
use Rattle.ut_case.specs.Numbering.{shared}
use Rattle.ut_case.specs.On.{start_in}
use Rattle.ut_case.specs.Problem.{Problem, source_at, directives_at}
use Rattle.ut_case.specs.StartFormulas.{macro_start_of, starts_from}
use Rattle.ut_case.specs.Starts.{macro_start, numbered_start}
use Rattle.case_laws.proofs.Lower.{FactsAreTheRun}
use Rattle.case_laws.proofs.OneList.{In}
use Rattle.case_laws.proofs.Starts.{Says}

state_back : (s : MacroState) → state_of (is_defined s) (is_true s) ≡ s
state_back Undefined = refl
state_back DefinedFalse = refl
state_back DefinedTrue = refl

true_defined : (s : MacroState) → is_true s ≡ true → is_defined s ≡ true
true_defined Undefined h = absurd (false≢true h)
true_defined DefinedFalse h = refl
true_defined DefinedTrue h = refl

-- the place that is found is the number of a name
place_is : (b : Bool) (n k : ℕ) → cond b (Some n) None ≡ Some k → n ≡ k
place_is true n k h = ap (λ (o : Option ℕ). inner o) h
  where
    inner : Option ℕ → ℕ
    inner None = n
    inner (Some m) = m
place_is false n k h = absurd (cc)

-- the place of a name in a list has the name
name_at : (names : List (List ℕ)) (name : List ℕ) → list_any (text_eq name) names ≡ true → get_or names (position_or_len (text_eq name) names) [] ≡ name
name_at names name h = sym (text_eq-exact name (get_or names (position_or_len (text_eq name) names) []) (position-Some (text_eq name) names (position_or_len (text_eq name) names) [] (position_found (text_eq name) names h)).1)

module _ (p : Problem) (f : Family) (x : Case) (file : ℕ)
    (says : (n : ℕ) (macro : List ℕ) → In (names_of (directives_at p file)) macro → Says (item_truth p f x) (record { d = (macro_start_of (shared p) f file n macro).d; t = (macro_start_of (shared p) f file n macro).t }) (macro_start p.basis f x file n macro)) where
  abbrev v : Item → Bool
  v = item_truth p f x

  abbrev ds : List Directive
  ds = directives_at p file

  abbrev names : List (List ℕ)
  names = names_of (directives_at p file)

  abbrev starts : List StartOf
  starts = starts_from (shared p) f file 0 (names_of (directives_at p file))

  abbrev built : BuiltOf
  built = built_of (shared p) f (source_at p file).paths

  abbrev src : Numbers
  src = source_of file (directives_at p file)

  -- the start of a macro is the state that it has in the case
  starts_at : (macros : List (List ℕ)) → ((macro : List ℕ) → In macros macro → In (names_of (directives_at p file)) macro) → (m k : ℕ) → k < length macros
      → start_state v (slice_get (starts_from (shared p) f file m macros) k) ≡ macro_start p.basis f x file (m + k) (get_or macros k [])
  starts_at [] within m k lt = absurd (omega (arith, lt))
  starts_at (macro ∷ macros) within m zero lt = let at : m ≡ m + 0 = omega arith in let here = says m macro (within macro (inl refl)) in
      (λ i. state_of (here.d i) (here.t i)) ∙ (state_back (macro_start p.basis f x file m macro) ∙ ap (λ n. macro_start p.basis f x file n macro) at)
  starts_at (macro ∷ macros) within m (suc k) lt = let at : suc m + k ≡ m + suc k = omega arith in
      starts_at macros (λ other h. within other (inr h)) (suc m) k (omega (arith, lt)) ∙ ap (λ n. macro_start p.basis f x file n (get_or macros k [])) at

  -- none stands past the last
  past : (macros : List (List ℕ)) (m k : ℕ) → length macros ≡ k → slice_get (starts_from (shared p) f file m macros) k ≡ None
  past [] m k e = refl
  past (macro ∷ macros) m zero e = absurd (omega (arith, e))
  past (macro ∷ macros) m (suc k) e = past macros (suc m) k (omega (arith, e))

  pub same_macro : (macro : List ℕ) → numbered_start p.basis f x file macro (position (text_eq macro) names) ≡ start_state v (slice_get starts (position_or_len (text_eq macro) names))
  same_macro macro = by (position (text_eq macro) names) refl
    where
      by : (o : Option ℕ) → position (text_eq macro) names ≡ o → numbered_start p.basis f x file macro o ≡ start_state v (slice_get starts (position_or_len (text_eq macro) names))
      by None e = sym (ap (start_state v) (past names 0 (position_or_len (text_eq macro) names) (no_place (text_eq macro) names e)))
      by (Some k) e = let found = position-Some (text_eq macro) names k [] e in
          let place = place_is (nat_lt (position_or_len (text_eq macro) names) (length names)) (position_or_len (text_eq macro) names) k e in
          let at : 0 + k ≡ k = omega arith in
          ap (λ (name : List ℕ). macro_start p.basis f x file k name) (text_eq-exact macro (get_or names k []) found.1)
          ∙ (ap (λ (n : ℕ). macro_start p.basis f x file n (get_or names k [])) (sym at) ∙ (sym (starts_at names (λ other h. h) 0 k found.0)
          ∙ ap (λ (n : ℕ). start_state v (slice_get starts n)) (sym place)))

  are_states : (macros : List (List ℕ)) → ((macro : List ℕ) → In macros macro → In (names_of (directives_at p file)) macro) → (m : ℕ) → AreStates v (starts_from (shared p) f file m macros)
  are_states [] within m = tt
  are_states (macro ∷ macros) within m = let here = says m macro (within macro (inl refl)) in
      (λ h. here.d ∙ true_defined (macro_start p.basis f x file m macro) (sym here.t ∙ h), are_states macros (λ other h. within other (inr h)) (suc m))

  module _ (is : truth (item_truth p f x) (built_of (shared p) f (source_at p file).paths).formula ≡ is_built (shared p) f x.configuration (source_at p file).paths) where
    -- so the run finds the same
    same_start : start_in (shared p) f x file (source_at p file) ≡ start_of src starts built v
    same_start = λ i. record {
      built = sym is i;
      macros = λ macro. same_macro macro i;
      piece = (start_in (shared p) f x file (source_at p file)).piece;
      line = (start_in (shared p) f x file (source_at p file)).line;
    }

    is_run : IsRun src ds (start_of src starts built v) v
    is_run = record {
      blocks = λ b l. ap (λ (s : Start). is_on_in s ds b) same_start;
      defined = λ name known turn l. λ i. is_defined (get_or (states_of (same_start i) ds (name_at names name known i)) turn Undefined);
      truths = λ name known turn l. λ i. is_true (get_or (states_of (same_start i) ds (name_at names name known i)) turn Undefined);
    }

    pub source_met : FactsAreTheRun → IsWellFormed ds → length starts ≡ length names → AreStarts file 0 starts → is_outside built.formula ≡ true
        → MeetsAll v (source_facts (shared p) f file (source_at p file))
    source_met run formed count given outside = ((run file ds starts built formed count given outside).exact v).1 (are_states names (λ other h. h) 0, is_run)

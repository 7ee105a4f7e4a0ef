-- What the start of a macro comes to in a tree of the first form.
use Rattle.std.proofs.Common.{◌≡◌, ℕ, ◌<◌, ◌==◌, Bool, true, false, ◌||◌, cond, refl, ap, sym, ◌∙◌, List, [], length, drop, Option, None, Some, nat_eq, codes, ⊎_elim}
use Rattle.std.proofs.lemmas.List.Quantifiers.{position-Some}
use Rattle.std.specs.List.{starts_with}
use Rattle.std.specs.Option.{option_and_then, is_some}
use Rattle.ut_text.specs.Text.{text_eq}
use Rattle.cpp_blocks.specs.declared.state.MacroState.{MacroState}
use Rattle.cpp_blocks.specs.declared.state.MacroState.TheVariants.{Undefined, DefinedTrue}
use Rattle.cpp_blocks.specs.Run.{is_defined}
use Rattle.kconf_tree.specs.Shape.{Shape, number_of}
use Rattle.kconf_tree.specs.Value.{Configuration, own_value, stands_for}
use Rattle.kconf_tree.specs.Valid.{KeepsRules}
use Rattle.undertaker.specs.On.{Case, config_name, module_name, module_of, has_value, is_written_one, truth_state, start_by}
use Rattle.undertaker.specs.declared.wishes.Meaning.{Meaning}
use Rattle.undertaker.specs.declared.wishes.Meaning.TheVariants.{Free, Symbol, Module, Undeclared}
use Rattle.undertaker.specs.Dependencies.{Graph}
use Rattle.undertaker.specs.Wishes.{meaning_in, meaning_by, meaning_of}
use Rattle.undertaker.specs.FirstTrees.{Shows}
use Rattle.undertaker.proofs.Trees.{value_cases}

-- whether a macro of this meaning is defined at the start
abbrev pub defined_as : Case → List ℕ → Meaning → Bool
defined_as x macro Free = is_defined (x.environment.start macro)
defined_as x macro (Symbol k) = x.configuration.value k == 2
defined_as x macro Module = false
defined_as x macro Undeclared = x.configuration.undeclared (drop 7 macro)

module _ (t : Shape) (g : Graph) (shows : Shows t g) where
  pub number_within : (name : List ℕ) (k : ℕ) → number_of t name ≡ Some k → k < length g.names
  number_within name k h = (position-Some (λ n. text_eq n name) g.names k [] (sym (shows.number name) ∙ h)).0

  module_within : (name : List ℕ) (k : ℕ) → module_of t name ≡ Some k → k < length g.names
  module_within name k h = by (module_name name) h
    where
      by : (o : Option (List ℕ)) → option_and_then (number_of t) o ≡ Some k → k < length g.names
      by None e = absurd (cc)
      by (Some p) e = number_within p k e

  module _ (x : Case) (r : KeepsRules t x.configuration) where
    abbrev c : Configuration
    c = x.configuration

    own_is : (k : ℕ) → k < length g.names → own_value t c k ≡ c.value k
    own_is k lt = ap (λ kind. stands_for kind (c.value k)) (shows.bool k lt)

    never_m : (o : Option ℕ) → ((k : ℕ) → o ≡ Some k → k < length g.names) → has_value t c 1 o ≡ false
    never_m None h = refl
    never_m (Some k) h = rw (own_is k (h k refl)) (⊎_elim (λ e. rw e refl) (λ p. rw p.0 refl) (value_cases t g shows c r k (h k refl)))

    never_written : (o : Option ℕ) → is_written_one t c o ≡ false
    never_written None = refl
    never_written (Some k) = rw (shows.no_text k) refl

    -- the start of `CONFIG_N`, with the numbers of N and, for `P_MODULE`, of P
    abbrev start_with : List ℕ → List ℕ → Option ℕ → Option ℕ → MacroState
    start_with macro name o m = cond (has_value t c 2 o || has_value t c 1 m) DefinedTrue
        (cond (is_written_one t c o) (truth_state (x.environment.truth macro))
        (cond (is_some o || is_some m) Undefined (cond (c.undeclared name) DefinedTrue Undefined)))

    abbrev meaning_with : Option ℕ → Option ℕ → Meaning
    meaning_with (Some k) m = Symbol k
    meaning_with None m = cond (is_some m) Module Undeclared

    start_is : (macro : List ℕ) (o m : Option ℕ) → ((k : ℕ) → o ≡ Some k → k < length g.names) → ((k : ℕ) → m ≡ Some k → k < length g.names)
        → is_defined (start_with macro (drop 7 macro) o m) ≡ defined_as x macro (meaning_with o m)
    start_is macro (Some k) m h n = rw (never_m m n, never_written (Some k), own_is k (h k refl)) (by (c.value k == 2))
      where
        by : (b : Bool) → is_defined (cond (b || false) DefinedTrue Undefined) ≡ b
        by true = refl
        by false = refl
    start_is macro None (Some j) h n = rw (never_m (Some j) n) refl
    start_is macro None None h n = by (c.undeclared (drop 7 macro))
      where
        by : (b : Bool) → is_defined (cond b DefinedTrue Undefined) ≡ b
        by true = refl
        by false = refl

    meaning_is : (name : List ℕ) (o : Option ℕ) → meaning_in t name o ≡ meaning_with o (module_of t name)
    meaning_is name (Some k) = refl
    meaning_is name None = refl

    pub defined_by_meaning : (macro : List ℕ) → is_defined (start_by t x macro (config_name macro)) ≡ defined_as x macro (meaning_of t macro)
    defined_by_meaning macro = by (starts_with nat_eq macro (codes "CONFIG_"))
      where
        named : is_defined (start_by t x macro (Some (drop 7 macro))) ≡ defined_as x macro (meaning_by t (Some (drop 7 macro)))
        named = start_is macro (number_of t (drop 7 macro)) (module_of t (drop 7 macro)) (number_within (drop 7 macro)) (module_within (drop 7 macro))
            ∙ ap (defined_as x macro) (sym (meaning_is (drop 7 macro) (number_of t (drop 7 macro))))

        by : (b : Bool) → is_defined (start_by t x macro (cond b (Some (drop 7 macro)) None)) ≡ defined_as x macro (meaning_by t (cond b (Some (drop 7 macro)) None))
        by true = named
        by false = refl

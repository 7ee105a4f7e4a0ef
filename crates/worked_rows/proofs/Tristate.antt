-- A tristate symbol is y or m, and m only where modules are on.
use Rattle.std.proofs.Common.{◌≡◌, ℕ, ◌≤◌, ◌<◌, ◌==◌, zero, suc, Bool, true, false, not, ◌&&◌, cond, refl, ap, sym, subst, ◌∙◌, arith, List, [], Option, Some, inr, max, codes}
use Rattle.std.proofs.lemmas.Bool.{false≢true}
use Rattle.std.proofs.lemmas.Bool.Decides.{nat_tests}
use Rattle.cpp_blocks.specs.declared.state.MacroState.TheVariants.{Undefined, DefinedTrue}
use Rattle.cpp_blocks.specs.Run.{is_defined}
use Rattle.kconf_tree.specs.declared.shape.Counts.TheVariants as counts
use Rattle.kconf_tree.specs.Value.{Configuration}
use Rattle.kconf_tree.specs.Properties.{visibility_of}
use Rattle.kconf_tree.specs.Valid.{base_of, calculate, promoted, HasValueBy, KeepsRules, IsValid}
use Rattle.ut_case.specs.declared.question.Class.TheVariants as class
use Rattle.ut_case.specs.declared.question.Family.TheVariants as family
use Rattle.ut_case.specs.declared.word.Word.TheVariants.{Dead, Live}
use Rattle.ut_case.specs.Cases.{Case}
use Rattle.ut_case.specs.Problem.{Basis, OfTree}
use Rattle.ut_case.specs.Words.{IsWordOf}
use Rattle.worked_rows.specs.Problems.{over, block, none_spent}
use Rattle.worked_rows.specs.Texts.{modular_tree, both_ways, module_alone}
use Rattle.worked_rows.proofs.Asked.{of_valid}
use Rattle.worked_rows.proofs.ByRules.{live_outer, live_outer_negated, dead_together, dead_without}
use Rattle.worked_rows.proofs.Facts.{no_third, no_choice, without_fails}
use Rattle.worked_rows.proofs.Macros.{config_a, defined_if, case_with}
use Rattle.worked_rows.proofs.Nested.{macro_in}
use Rattle.worked_rows.proofs.Validity.{value_y}

-- the macro that is defined where A is m
abbrev config_a_module : List ℕ
config_a_module = codes "CONFIG_A_MODULE"

-- the macro of the modules symbol
abbrev config_modules : List ℕ
config_modules = codes "CONFIG_MODULES"

-- ---- limits

-- A is always visible
a_visible : (c : Configuration) → visibility_of modular_tree c 0 ≡ 2
a_visible c = ap (λ v. max v 0) (value_y modular_tree c)

-- so is the modules symbol
modules_visible : (c : Configuration) → visibility_of modular_tree c 1 ≡ 2
modules_visible c = ap (λ v. max v 0) (value_y modular_tree c)

-- ---- what the rules say

-- a tristate is m only where modules are on
m_needs : (on : Bool) (base x : ℕ) → promoted counts.Tristate on base ≡ x → (x == 1) ≡ true → on ≡ true
m_needs true base x h e = refl
m_needs false base x h e = by (base == 0) h
  where
    no : (k x : ℕ) → (k == 1) ≡ false → k ≡ x → (x == 1) ≡ true → ⊥
    no k x i g f = false≢true (sym i ∙ subst (λ y. (y == 1) ≡ true) (sym g) f)

    by : (b : Bool) → cond b 0 2 ≡ x → false ≡ true
    by true g = absurd (no 0 x refl g e)
    by false g = absurd (no 2 x refl g e)

-- the modules symbol is n or y
n_or_y : (base x : ℕ) → promoted counts.Bool true base ≡ x → not (x == 0) ≡ true → (x == 2) ≡ true
n_or_y base x h e = by (base == 0) h
  where
    none : (x : ℕ) → 0 ≡ x → not (x == 0) ≡ true → ⊥
    none x g f = false≢true (subst (λ y. not (y == 0) ≡ true) (sym g) f)

    by : (b : Bool) → cond b 0 2 ≡ x → (x == 2) ≡ true
    by true g = absurd (none x g e)
    by false g = ap (λ y. y == 2) (sym g)

-- where A is m, modules are on
pub m_needs_modules : (c : Configuration) → KeepsRules modular_tree c → (c.value 0 == 1) ≡ true → (c.value 1 == 2) ≡ true
m_needs_modules c r h = n_or_y (max (base_of (visibility_of modular_tree c 1) 0 (r.setting 1)) 0) (c.value 1) (r.calculated.gives 1 (omega arith) refl).1
    (m_needs (not (c.value 1 == 0)) (max (base_of (visibility_of modular_tree c 0) 0 (r.setting 0)) 0) (c.value 0) (r.calculated.gives 0 (omega arith) refl).1 h)

-- ---- valid configurations

-- modules are on, and A has this value
abbrev with_modules : ℕ → Configuration
with_modules value = record { value = λ k. cond (k == 0) value 2; mode = λ i. 0; outer = λ k. false; undeclared = λ name. false }

-- the user sets A to this value, and the modules symbol to y
abbrev set_to : ℕ → ℕ → Option ℕ
set_to value k = Some (cond (k == 0) value 2)

-- where both are set
set_is_valid : (value : ℕ) → HasValueBy modular_tree (with_modules value) (Some value) 0 → IsValid modular_tree (with_modules value)
set_is_valid value a = record {
  rules = record { values = λ k lt. small (k == 0); setting = set_to value; calculated = record { gives = λ k lt own. at k lt }; choices = λ i lt. absurd (no_choice i lt) };
  undeclared_are_n = λ name. refl;
}
  where
    small : (b : Bool) → cond b value 2 ≤ 2
    small true = a.0
    small false = omega arith

    at : (k : ℕ) → k < 2 → HasValueBy modular_tree (with_modules value) (set_to value k) k
    at zero lt = a
    at (suc zero) lt = (inr refl, ap (λ v. calculate counts.Bool true v 0 0 (Some 2)) (modules_visible (with_modules value)))
    at (suc (suc k)) lt = absurd (no_third k lt)

-- A can be y
y_is_valid : IsValid modular_tree (with_modules 2)
y_is_valid = set_is_valid 2 (omega arith, ap (λ v. calculate counts.Tristate true v 0 0 (Some 2)) (a_visible (with_modules 2)))

-- A can be m
m_is_valid : IsValid modular_tree (with_modules 1)
m_is_valid = set_is_valid 1 (omega arith, ap (λ v. calculate counts.Tristate true v 0 0 (Some 1)) (a_visible (with_modules 1)))

-- ---- the macros at the start

-- the tree of A and MODULES
abbrev modular : Basis
modular = OfTree modular_tree

-- defined where this holds, and else undefined
defined_at : (b : Bool) → is_defined (cond b DefinedTrue Undefined) ≡ b
defined_at true = refl
defined_at false = refl

-- a value isn't y and m at once
never_both : (v : ℕ) → ((v == 2) && (v == 1)) ≡ false
never_both v = by (v == 2) refl
  where
    is_two : (v : ℕ) → (v == 2) ≡ true → v ≡ 2
    is_two v e = grind (arith, nat_tests)

    by : (b : Bool) → (v == 2) ≡ b → (b && (v == 1)) ≡ false
    by false e = refl
    by true e = ap (λ u. u == 1) (is_two v e)

-- not both A's macro and `CONFIG_A_MODULE` are defined
never_both_ways : (x : Case) → (is_defined (macro_in modular family.Whole x config_a config_a_module config_a) && is_defined (macro_in modular family.Whole x config_a config_a_module config_a_module)) ≡ false
never_both_ways x = ap (λ b. b && is_defined (macro_in modular family.Whole x config_a config_a_module config_a_module)) (defined_if (x.configuration.value 0 == 2))
    ∙ ap (λ b. (x.configuration.value 0 == 2) && b) (defined_at (x.configuration.value 0 == 1)) ∙ never_both (x.configuration.value 0)

-- where A is m, modules are on
never_alone : (x : Case) → KeepsRules modular_tree x.configuration
    → (is_defined (macro_in modular family.Whole x config_a_module config_modules config_a_module) && not (is_defined (macro_in modular family.Whole x config_a_module config_modules config_modules))) ≡ false
never_alone x r = without_fails (is_defined (macro_in modular family.Whole x config_a_module config_modules config_a_module)) (is_defined (macro_in modular family.Whole x config_a_module config_modules config_modules)) (λ h. defined_if (x.configuration.value 1 == 2) ∙ m_needs_modules x.configuration r (sym (defined_at (x.configuration.value 0 == 1)) ∙ h))

-- A has this value, and all macros that start free are defined
abbrev all_defined : ℕ → Case
all_defined value = record { configuration = with_modules value; environment = λ i. true }

-- of the macros that start free the first one is defined
abbrev first_defined : ℕ → Case
first_defined value = case_with (with_modules value) 0

-- ---- words

-- the block that asks for y
pub both_first : (steps : ℕ) → IsWordOf (over modular_tree both_ways) steps none_spent (block 1) Live
both_first steps = live_outer modular [] steps config_a config_a_module (all_defined 2) (all_defined 1) (of_valid modular_tree _ y_is_valid) (of_valid modular_tree _ m_is_valid) refl refl

-- the block in it that asks for m
pub both_second : (steps : ℕ) → IsWordOf (over modular_tree both_ways) steps none_spent (block 2) (Dead class.Kconfig)
both_second steps = dead_together modular [] steps config_a config_a_module (all_defined 2) refl (λ x r. never_both_ways x)

-- the block that asks for m
pub alone_first : (steps : ℕ) → IsWordOf (over modular_tree module_alone) steps none_spent (block 1) Live
alone_first steps = live_outer_negated modular [] steps config_a_module config_modules (first_defined 1) (first_defined 2) (of_valid modular_tree _ m_is_valid) (of_valid modular_tree _ y_is_valid) refl refl

-- the block in it that asks that modules are off
pub alone_second : (steps : ℕ) → IsWordOf (over modular_tree module_alone) steps none_spent (block 2) (Dead class.Kconfig)
alone_second steps = dead_without modular [] steps config_a_module config_modules (first_defined 1) refl never_alone

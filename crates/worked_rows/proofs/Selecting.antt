-- A symbol without a prompt that another selects has y exactly where its selector has.
use Rattle.std.proofs.Common.{◌≡◌, ℕ, ◌<◌, ◌==◌, zero, suc, Bool, true, false, not, ◌&&◌, cond, refl, ap, sym, ◌∙◌, arith, [], Option, None, Some, ◌⊎◌, inl, inr, ⊎_elim, max, min}
use Rattle.cpp_blocks.specs.Run.{is_defined}
use Rattle.kconf_tree.specs.declared.shape.Counts.TheVariants as counts
use Rattle.kconf_tree.specs.Value.{Configuration}
use Rattle.kconf_tree.specs.Properties.{visibility_of, reverse_of}
use Rattle.kconf_tree.specs.Valid.{base_of, calculate, HasValueBy, KeepsRules, IsValid}
use Rattle.ut_case.specs.declared.question.Class.TheVariants as class
use Rattle.ut_case.specs.declared.question.Family.TheVariants as family
use Rattle.ut_case.specs.declared.word.Word.TheVariants.{Dead, Live}
use Rattle.ut_case.specs.Cases.{Case}
use Rattle.ut_case.specs.Problem.{Basis, OfTree}
use Rattle.ut_case.specs.Words.{IsWordOf}
use Rattle.worked_rows.specs.Problems.{over, block, none_spent}
use Rattle.worked_rows.specs.Texts.{selecting_tree, backwards, dependent}
use Rattle.worked_rows.proofs.Asked.{of_valid}
use Rattle.worked_rows.proofs.ByRules.{live_outer_negated, dead_without}
use Rattle.worked_rows.proofs.Facts.{no_third, no_choice}
use Rattle.worked_rows.proofs.Macros.{config_a, config_b, defined_if, case_with}
use Rattle.worked_rows.proofs.Nested.{macro_in}
use Rattle.worked_rows.proofs.Validity.{all_at, value_y}

-- ---- limits

-- the selector is always visible
b_visible : (c : Configuration) → visibility_of selecting_tree c 1 ≡ 2
b_visible c = ap (λ v. max v 0) (value_y selecting_tree c)

-- the selected symbol has its selector's value for a reverse dependency
a_reverse : (c : Configuration) → reverse_of selecting_tree c 0 ≡ max (min (c.value 1) 2) 0
a_reverse c = ap (λ v. max (min (c.value 1) v) 0) (value_y selecting_tree c)

-- ---- what the rules say

-- a bool is n or y
n_or_y : (base x : ℕ) → cond (max base 0 == 0) 0 2 ≡ x → (x ≡ 0) ⊎ (x ≡ 2)
n_or_y base x h = by (max base 0 == 0) h
  where
    by : (b : Bool) → cond b 0 2 ≡ x → (x ≡ 0) ⊎ (x ≡ 2)
    by true g = inl (sym g)
    by false g = inr (sym g)

-- the value of a bool without a prompt that is selected by one with this value
abbrev selected_at : ℕ → ℕ
selected_at v = cond (max 0 (max (min v 2) 0) == 0) 0 2

-- what the user sets doesn't count where the symbol isn't visible
hidden : (v : ℕ) (u : Option ℕ) → calculate counts.Bool false 0 (max (min v 2) 0) 0 u ≡ selected_at v
hidden v None = refl
hidden v (Some u) = refl

-- both are y or neither is
pub they_agree : (c : Configuration) → KeepsRules selecting_tree c → (c.value 0 == 2) ≡ (c.value 1 == 2)
they_agree c r = ⊎_elim (λ e. at 0 refl e) (λ e. at 2 refl e) b_cases
  where
    a_is : c.value 0 ≡ selected_at (c.value 1)
    a_is = sym (r.calculated.gives 0 (omega arith) refl).1 ∙ ap (λ rev. calculate counts.Bool false 0 rev 0 (r.setting 0)) (a_reverse c) ∙ hidden (c.value 1) (r.setting 0)

    b_cases : (c.value 1 ≡ 0) ⊎ (c.value 1 ≡ 2)
    b_cases = n_or_y (base_of (visibility_of selecting_tree c 1) 0 (r.setting 1)) (c.value 1) (r.calculated.gives 1 (omega arith) refl).1

    at : (v : ℕ) → (selected_at v == 2) ≡ (v == 2) → c.value 1 ≡ v → (c.value 0 == 2) ≡ (c.value 1 == 2)
    at v h e = ap (λ x. x == 2) (a_is ∙ ap selected_at e) ∙ h ∙ sym (ap (λ x. x == 2) e)

-- ---- two valid configurations

-- nothing is set
off_is_valid : IsValid selecting_tree (all_at 0 (λ name. false))
off_is_valid = record {
  rules = record { values = λ k lt. omega arith; setting = λ k. None; calculated = record { gives = λ k lt own. at k lt }; choices = λ i lt. absurd (no_choice i lt) };
  undeclared_are_n = λ name. refl;
}
  where
    at : (k : ℕ) → k < 2 → HasValueBy selecting_tree (all_at 0 (λ name. false)) None k
    at zero lt = (tt, ap (λ rev. calculate counts.Bool false 0 rev 0 None) (a_reverse (all_at 0 (λ name. false))))
    at (suc zero) lt = (tt, refl)
    at (suc (suc k)) lt = absurd (no_third k lt)

-- the selector alone is set
abbrev b_set : ℕ → Option ℕ
b_set k = cond (k == 1) (Some 2) None

-- and so both are y
on_is_valid : IsValid selecting_tree (all_at 2 (λ name. false))
on_is_valid = record {
  rules = record { values = λ k lt. omega arith; setting = b_set; calculated = record { gives = λ k lt own. at k lt }; choices = λ i lt. absurd (no_choice i lt) };
  undeclared_are_n = λ name. refl;
}
  where
    at : (k : ℕ) → k < 2 → HasValueBy selecting_tree (all_at 2 (λ name. false)) (b_set k) k
    at zero lt = (tt, ap (λ rev. calculate counts.Bool false 0 rev 0 None) (a_reverse (all_at 2 (λ name. false))))
    at (suc zero) lt = (inr refl, ap (λ v. calculate counts.Bool false v 0 0 (Some 2)) (b_visible (all_at 2 (λ name. false))))
    at (suc (suc k)) lt = absurd (no_third k lt)

-- ---- the macros at the start

-- the tree of A and its selector B
abbrev selecting : Basis
selecting = OfTree selecting_tree

-- both macros are defined or neither is, where A's is asked for first
agree_forwards : (x : Case) → KeepsRules selecting_tree x.configuration
    → is_defined (macro_in selecting family.Whole x config_a config_b config_a) ≡ is_defined (macro_in selecting family.Whole x config_a config_b config_b)
agree_forwards x r = defined_if (x.configuration.value 0 == 2) ∙ they_agree x.configuration r ∙ sym (defined_if (x.configuration.value 1 == 2))

-- and where B's is
agree_backwards : (x : Case) → KeepsRules selecting_tree x.configuration
    → is_defined (macro_in selecting family.Whole x config_b config_a config_b) ≡ is_defined (macro_in selecting family.Whole x config_b config_a config_a)
agree_backwards x r = defined_if (x.configuration.value 1 == 2) ∙ sym (they_agree x.configuration r) ∙ sym (defined_if (x.configuration.value 0 == 2))

-- every symbol has this value, and of the macros that start free the first one is defined
abbrev case_at : ℕ → Case
case_at value = case_with (all_at value (λ name. false)) 0

-- of two equal truths not one alone holds
one_fails : (a b : Bool) → a ≡ b → (a && not b) ≡ false
one_fails true true h = refl
one_fails true false h = h
one_fails false b h = refl

-- ---- words

-- the block that asks for A
pub backwards_first : (steps : ℕ) → IsWordOf (over selecting_tree backwards) steps none_spent (block 1) Live
backwards_first steps = live_outer_negated selecting [] steps config_a config_b (case_at 2) (case_at 0) (of_valid selecting_tree _ on_is_valid) (of_valid selecting_tree _ off_is_valid) refl refl

-- the block in it that asks that B is off
pub backwards_second : (steps : ℕ) → IsWordOf (over selecting_tree backwards) steps none_spent (block 2) (Dead class.Kconfig)
backwards_second steps = dead_without selecting [] steps config_a config_b (case_at 0) refl (λ x r. one_fails _ _ (agree_forwards x r))

-- in a block that asks for B, the one that asks that A is off
pub forwards_second : (steps : ℕ) → IsWordOf (over selecting_tree dependent) steps none_spent (block 2) (Dead class.Kconfig)
forwards_second steps = dead_without selecting [] steps config_b config_a (case_at 0) refl (λ x r. one_fails _ _ (agree_backwards x r))

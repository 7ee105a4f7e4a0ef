-- The words on a group in a group, of which each asks for A or for B, where B depends on A.
use Rattle.std.proofs.Common.{◌≡◌, ℕ, ◌==◌, Bool, true, false, not, ◌&&◌, refl, sym, ◌∙◌, []}
use Rattle.cpp_blocks.specs.Run.{is_defined}
use Rattle.ut_case.specs.declared.question.Class.TheVariants as class
use Rattle.ut_case.specs.declared.question.Family.TheVariants as family
use Rattle.ut_case.specs.declared.word.Word.TheVariants.{Dead, Undead, Live}
use Rattle.kconf_tree.specs.Valid.{KeepsRules}
use Rattle.ut_case.specs.Cases.{Case}
use Rattle.ut_case.specs.Problem.{Basis, OfTree}
use Rattle.ut_case.specs.Words.{IsWordOf}
use Rattle.worked_rows.specs.Problems.{over, block, none_spent}
use Rattle.worked_rows.specs.Texts.{two_tree, contrary, dependent, repeated, implied}
use Rattle.worked_rows.proofs.Asked.{of_valid}
use Rattle.worked_rows.proofs.ByRules.{live_outer_negated, dead_without, dead_by_code, undead_by_code, undead_by_rules}
use Rattle.worked_rows.proofs.Facts.{without_fails}
use Rattle.worked_rows.proofs.Macros.{config_a, config_b, defined_if, case_with}
use Rattle.worked_rows.proofs.Nested.{macro_in}
use Rattle.worked_rows.proofs.Validity.{all_at, off_is_valid, on_is_valid, b_needs_a}

-- every symbol has this value, and of the macros that start free the first one is defined
abbrev case_at : ℕ → Case
case_at value = case_with (all_at value (λ name. false)) 0

-- the tree of A and B
abbrev two : Basis
two = OfTree two_tree

-- not both a truth and its contrary
contrary_fails : (b : Bool) → (b && not b) ≡ false
contrary_fails true = refl
contrary_fails false = refl

-- where the rules are kept, B's macro isn't defined without A's
never_alone : (x : Case) → KeepsRules two_tree x.configuration
    → (is_defined (macro_in two family.Whole x config_b config_a config_b) && not (is_defined (macro_in two family.Whole x config_b config_a config_a))) ≡ false
never_alone x r = without_fails (is_defined (macro_in two family.Whole x config_b config_a config_b)) (is_defined (macro_in two family.Whole x config_b config_a config_a)) (λ h. defined_if (x.configuration.value 0 == 2) ∙ b_needs_a x.configuration r (sym (defined_if (x.configuration.value 1 == 2)) ∙ h))

-- A and then its contrary
pub contrary_first : (steps : ℕ) → IsWordOf (over two_tree contrary) steps none_spent (block 1) Live
contrary_first steps = live_outer_negated two [] steps config_a config_a (case_at 2) (case_at 0) (of_valid two_tree _ on_is_valid) (of_valid two_tree _ off_is_valid) refl refl

-- the block in it that asks for the contrary
pub contrary_second : (steps : ℕ) → IsWordOf (over two_tree contrary) steps none_spent (block 2) (Dead class.Code)
contrary_second steps = dead_by_code two [] steps config_a config_a (λ f x. contrary_fails (is_defined (macro_in two f x config_a config_a config_a)))

-- B and then the contrary of A
pub dependent_first : (steps : ℕ) → IsWordOf (over two_tree dependent) steps none_spent (block 1) Live
dependent_first steps = live_outer_negated two [] steps config_b config_a (case_at 2) (case_at 0) (of_valid two_tree _ on_is_valid) (of_valid two_tree _ off_is_valid) refl refl

-- the block in it that asks that A is off
pub dependent_second : (steps : ℕ) → IsWordOf (over two_tree dependent) steps none_spent (block 2) (Dead class.Kconfig)
dependent_second steps = dead_without two [] steps config_b config_a (case_at 0) refl never_alone

-- A and then A once more
pub repeated_second : (steps : ℕ) → IsWordOf (over two_tree repeated) steps none_spent (block 2) (Undead class.Code)
repeated_second steps = undead_by_code two [] steps config_a config_a (case_at 2) (of_valid two_tree _ on_is_valid) refl
    (λ f x. contrary_fails (is_defined (macro_in two f x config_a config_a config_a)))

-- B and then A
pub implied_second : (steps : ℕ) → IsWordOf (over two_tree implied) steps none_spent (block 2) (Undead class.Kconfig)
implied_second steps = undead_by_rules two [] steps config_b config_a (case_at 2) (of_valid two_tree _ on_is_valid) refl (case_at 0) refl never_alone

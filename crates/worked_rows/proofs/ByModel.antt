-- The words on blocks over a model text that says: where `CONFIG_A` is true, so is `CONFIG_B`.
use Rattle.std.proofs.Common.{◌≡◌, ℕ, ◌==◌, Bool, true, false, not, ◌&&◌, ◌||◌, cond, refl, ap, sym, ◌∙◌, [], ◌∷◌}
use Rattle.std.proofs.lemmas.Bool.{false≢true}
use Rattle.ut_logic.specs.declared.formula.Formula.TheVariants.{Is, Neg}
use Rattle.ut_logic.specs.declared.item.Item.TheVariants.{SymY}
use Rattle.ut_logic.specs.Truth.{truth, truths, all_true}
use Rattle.ut_logic.proofs.FoldLaws.{truth-AnyOf, truth-Neg, truth-Is}
use Rattle.cpp_blocks.specs.declared.state.MacroState.TheVariants.{Undefined, DefinedTrue}
use Rattle.cpp_blocks.specs.Run.{is_defined}
use Rattle.kconf_tree.specs.Value.{Configuration}
use Rattle.ut_case.specs.declared.question.Class.TheVariants as class
use Rattle.ut_case.specs.declared.question.Family.TheVariants as family
use Rattle.ut_case.specs.declared.word.Word.TheVariants.{Dead, Live}
use Rattle.ut_case.specs.Cases.{Case, Keeps, name_truth}
use Rattle.ut_case.specs.Problem.{Basis, OfRules}
use Rattle.ut_case.specs.Words.{IsWordOf}
use Rattle.worked_rows.specs.Problems.{with_names, block, none_spent}
use Rattle.worked_rows.specs.Texts.{two_rules, backwards}
use Rattle.worked_rows.proofs.ByRules.{live_outer_negated, dead_without}
use Rattle.worked_rows.proofs.Facts.{without_fails}
use Rattle.worked_rows.proofs.Macros.{config_a, config_b, case_with}
use Rattle.worked_rows.proofs.Nested.{macro_in}
use Rattle.worked_rows.proofs.Validity.{all_at}

-- the model text
abbrev pub model : Basis
model = OfRules two_rules

-- what its one rule says
rule_says : (c : Configuration) → all_true (truths (name_truth c) two_rules.holds) ≡ ((not (c.value 0 == 2) || ((c.value 1 == 2) || false)) && true)
rule_says c = ap (λ b. b && true) (truth-AnyOf (name_truth c) (Neg (Is (SymY 0)) ∷ Is (SymY 1) ∷ [])
    ∙ ap (λ b. b || (truth (name_truth c) (Is (SymY 1)) || false)) (truth-Neg (name_truth c) (Is (SymY 0)) ∙ ap not (truth-Is (name_truth c) (SymY 0)))
    ∙ ap (λ b. not (c.value 0 == 2) || (b || false)) (truth-Is (name_truth c) (SymY 1)))

-- defined where the name is true
defined_at : (b : Bool) → is_defined (cond b DefinedTrue Undefined) ≡ b
defined_at true = refl
defined_at false = refl

-- a rule that is met
implied : (a b : Bool) → ((not a || (b || false)) && true) ≡ true → a ≡ true → b ≡ true
implied true true h e = refl
implied true false h e = absurd (false≢true h)
implied false b h e = absurd (false≢true e)

-- where it is, A's macro isn't defined without B's
never_alone : (x : Case) → Keeps model x.configuration
    → (is_defined (macro_in model family.Whole x config_a config_b config_a) && not (is_defined (macro_in model family.Whole x config_a config_b config_b))) ≡ false
never_alone x k = without_fails (is_defined (macro_in model family.Whole x config_a config_b config_a)) (is_defined (macro_in model family.Whole x config_a config_b config_b)) (λ h. defined_at (x.configuration.value 1 == 2)
    ∙ implied (x.configuration.value 0 == 2) (x.configuration.value 1 == 2) (sym (rule_says x.configuration) ∙ k) (sym (defined_at (x.configuration.value 0 == 2)) ∙ h))

-- every name is true or not, and of the macros that start free the first one is defined
abbrev case_at : ℕ → Case
case_at value = case_with (all_at value (λ name. false)) 0

-- the block that asks for A
pub model_first : (steps : ℕ) → IsWordOf (with_names model [] backwards) steps none_spent (block 1) Live
model_first steps = live_outer_negated model [] steps config_a config_b (case_at 2) (case_at 0) (rule_says (all_at 2 (λ name. false)), λ name. refl) (rule_says (all_at 0 (λ name. false)), λ name. refl) refl refl

-- the block in it that asks that B isn't true
pub model_second : (steps : ℕ) → IsWordOf (with_names model [] backwards) steps none_spent (block 2) (Dead class.Kconfig)
model_second steps = dead_without model [] steps config_a config_b (case_at 0) refl never_alone

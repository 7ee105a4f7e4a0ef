-- Of the members of a choice at most one is y.
use Rattle.std.proofs.Common.{◌≡◌, ℕ, ◌≤◌, ◌<◌, ◌==◌, zero, suc, Bool, true, false, not, ◌&&◌, ◌||◌, cond, refl, ap, sym, ◌∙◌, arith, [], ◌∷◌, None, length, max}
use Rattle.std.proofs.lemmas.Bool.{false≢true}
use Rattle.cpp_blocks.specs.Run.{is_defined}
use Rattle.kconf_tree.specs.Value.{Configuration}
use Rattle.std.specs.List.{list_all}
use Rattle.kconf_tree.specs.Valid.{KeepsRules, IsValid, IsRightChoice, can_be_m, can_be_y, has_allowed_mode}
use Rattle.kconf_tree.specs.Right.{keeps_mode, has_one_y}
use Rattle.kconf_tree.proofs.Small.{and_left, and_right}
use Rattle.kconf_tree.proofs.RightChoices.{choice_by_test, test_by_choice}
use Rattle.ut_case.specs.declared.question.Class.TheVariants as class
use Rattle.ut_case.specs.declared.question.Family.TheVariants as family
use Rattle.ut_case.specs.declared.word.Word.TheVariants.{Dead, Live}
use Rattle.ut_case.specs.Cases.{Case}
use Rattle.ut_case.specs.Problem.{Basis, OfTree}
use Rattle.ut_case.specs.Words.{IsWordOf}
use Rattle.worked_rows.specs.Problems.{over, block, none_spent, picking}
use Rattle.worked_rows.specs.Texts.{choosing_tree, together}
use Rattle.worked_rows.proofs.Asked.{of_valid}
use Rattle.worked_rows.proofs.ByRules.{live_outer, dead_together}
use Rattle.worked_rows.proofs.Facts.{no_third}
use Rattle.worked_rows.proofs.Macros.{config_a, config_b, defined_if}
use Rattle.worked_rows.proofs.Nested.{macro_in}
use Rattle.worked_rows.proofs.Validity.{value_y}

-- ---- what the rules say

-- how many of two are y
abbrev y_count : Bool → Bool → ℕ
y_count a b = length {A = ℕ} (cond a (0 ∷ cond b (1 ∷ []) []) (cond b (1 ∷ []) []))

-- where the first is y only in mode y and where it can be, and one is y there, not both are y
one_at_most : (a b mode can more kept : Bool) → cond a (mode && can) kept ≡ true → cond (mode && (can || more)) (y_count a b == 1) true ≡ true → (a && b) ≡ false
one_at_most true true true true more kept h g = absurd (false≢true g)
one_at_most true true true false more kept h g = absurd (false≢true h)
one_at_most true true false can more kept h g = absurd (false≢true h)
one_at_most true false mode can more kept h g = refl
one_at_most false b mode can more kept h g = refl

-- not both members are y
pub not_both : (c : Configuration) → KeepsRules choosing_tree c → ((c.value 0 == 2) && (c.value 1 == 2)) ≡ false
not_both c r = let test = test_by_choice choosing_tree c 0 (r.choices 0 (omega arith)) in
    let rest = and_right (has_allowed_mode choosing_tree c 0) (list_all (keeps_mode choosing_tree c (c.mode 0)) (0 ∷ 1 ∷ []) && has_one_y choosing_tree c (c.mode 0) (0 ∷ 1 ∷ [])) test in
    one_at_most (c.value 0 == 2) (c.value 1 == 2) (c.mode 0 == 2) (can_be_y choosing_tree c 0) (can_be_y choosing_tree c 1 || false)
    (cond (c.value 0 == 1) ((c.mode 0 == 1) && can_be_m choosing_tree c 0) (c.value 0 == 0))
    (and_left (keeps_mode choosing_tree c (c.mode 0) 0) (list_all (keeps_mode choosing_tree c (c.mode 0)) (1 ∷ [])) (and_left (list_all (keeps_mode choosing_tree c (c.mode 0)) (0 ∷ 1 ∷ [])) (has_one_y choosing_tree c (c.mode 0) (0 ∷ 1 ∷ [])) rest))
    (and_right (list_all (keeps_mode choosing_tree c (c.mode 0)) (0 ∷ 1 ∷ [])) (has_one_y choosing_tree c (c.mode 0) (0 ∷ 1 ∷ [])) rest)

-- ---- two valid configurations

-- each value is n or y
small : (b : Bool) → cond b 2 0 ≤ 2
small true = omega arith
small false = omega arith

-- the only choice has the number 0
no_more : (i : ℕ) → suc i < 1 → ⊥
no_more i h = omega arith

-- the rules of the choice, where each condition has this value
abbrev first_right : ℕ → Bool
first_right v = not (max v 0 == 0) && ((not (max v 0 == 0) && true) && cond (not (max v 0 == 0) || (not (max v 0 == 0) || false)) (1 == 1) true)

-- the first member is y
first_is_valid : IsValid choosing_tree (picking 0)
first_is_valid = record {
  rules = record { values = λ k lt. small (k == 0); setting = λ k. None; calculated = record { gives = λ k lt own. absurd (member k lt own) }; choices = λ i lt. at i lt };
  undeclared_are_n = λ name. refl;
}
  where
    member : (k : ℕ) → k < 2 → Rattle.kconf_tree.specs.Shape.is_member choosing_tree k ≡ false → ⊥
    member zero lt h = false≢true (sym h)
    member (suc zero) lt h = false≢true (sym h)
    member (suc (suc k)) lt h = no_third k lt

    at : (i : ℕ) → i < 1 → IsRightChoice choosing_tree (picking 0) i
    at zero lt = choice_by_test choosing_tree (picking 0) 0 (ap first_right (value_y choosing_tree (picking 0)))
    at (suc i) lt = absurd (no_more i lt)

-- the second member is y
second_is_valid : IsValid choosing_tree (picking 1)
second_is_valid = record {
  rules = record { values = λ k lt. small (k == 1); setting = λ k. None; calculated = record { gives = λ k lt own. absurd (member k lt own) }; choices = λ i lt. at i lt };
  undeclared_are_n = λ name. refl;
}
  where
    member : (k : ℕ) → k < 2 → Rattle.kconf_tree.specs.Shape.is_member choosing_tree k ≡ false → ⊥
    member zero lt h = false≢true (sym h)
    member (suc zero) lt h = false≢true (sym h)
    member (suc (suc k)) lt h = no_third k lt

    at : (i : ℕ) → i < 1 → IsRightChoice choosing_tree (picking 1) i
    at zero lt = choice_by_test choosing_tree (picking 1) 0 (ap first_right (value_y choosing_tree (picking 1)))
    at (suc i) lt = absurd (no_more i lt)

-- ---- the macros at the start

-- the tree of the choice
abbrev choosing : Basis
choosing = OfTree choosing_tree

-- not both macros are defined
never_both : (x : Case) → KeepsRules choosing_tree x.configuration
    → (is_defined (macro_in choosing family.Whole x config_a config_b config_a) && is_defined (macro_in choosing family.Whole x config_a config_b config_b)) ≡ false
never_both x r = ap (λ b. b && is_defined (macro_in choosing family.Whole x config_a config_b config_b)) (defined_if (x.configuration.value 0 == 2))
    ∙ ap (λ b. (x.configuration.value 0 == 2) && b) (defined_if (x.configuration.value 1 == 2)) ∙ not_both x.configuration r

-- this member is y, and all macros that start free are defined
abbrev case_of : ℕ → Case
case_of k = record { configuration = picking k; environment = λ i. true }

-- ---- words

-- the block that asks for A
pub together_first : (steps : ℕ) → IsWordOf (over choosing_tree together) steps none_spent (block 1) Live
together_first steps = live_outer choosing [] steps config_a config_b (case_of 0) (case_of 1) (of_valid choosing_tree _ first_is_valid) (of_valid choosing_tree _ second_is_valid) refl refl

-- the block in it that asks for B
pub together_second : (steps : ℕ) → IsWordOf (over choosing_tree together) steps none_spent (block 2) (Dead class.Kconfig)
together_second steps = dead_together choosing [] steps config_a config_b (case_of 0) refl never_both

-- The words on blocks that ask for the macro of an int symbol with a default: it is defined, and its truth is free.
use Rattle.std.proofs.Common.{◌≡◌, ℕ, ◌<◌, ◌==◌, zero, suc, Bool, true, false, not, ◌&&◌, ◌||◌, cond, refl, ap, ◌∙◌, arith, List, [], ◌∷◌, ◌++◌, None, codes, position}
use Rattle.ut_text.specs.Text.{text_eq}
use Rattle.ut_logic.specs.declared.item.Item.TheVariants as item
use Rattle.cpp_blocks.specs.declared.state.MacroState.{MacroState}
use Rattle.cpp_blocks.specs.declared.state.MacroState.TheVariants.{Undefined}
use Rattle.cpp_blocks.specs.Mentions.{firsts, names_in, names_of}
use Rattle.cpp_blocks.specs.Run.{Start, is_defined, is_true, holds, opened}
use Rattle.cpp_directives.specs.declared.condition.Cond.TheVariants.{Defined, Plain}
use Rattle.kconf_tree.specs.Properties.{is_written}
use Rattle.kconf_tree.specs.Valid.{HasValueBy, IsValid}
use Rattle.kconf_tree.specs.Value.{Configuration}
use Rattle.ut_case.specs.declared.question.Class.TheVariants as class
use Rattle.ut_case.specs.declared.question.Family.{Family}
use Rattle.ut_case.specs.declared.question.Family.TheVariants as family
use Rattle.ut_case.specs.declared.word.Word.TheVariants.{Undead, Live}
use Rattle.ut_case.specs.Cases.{Case}
use Rattle.ut_case.specs.Numbering.{shared}
use Rattle.ut_case.specs.On.{start_in, is_on}
use Rattle.ut_case.specs.Problem.{OfTree, Problem, source_at}
use Rattle.ut_case.specs.Starts.{numbered_start, macro_start, defined_as}
use Rattle.ut_case.specs.Words.{IsWordOf}
use Rattle.worked_rows.specs.Problems.{over, block, none_spent}
use Rattle.worked_rows.specs.Texts.{number_tree, asks_twice}
use Rattle.worked_rows.proofs.Asked.{plain_is_built, selects, drops, never_drops, of_valid}
use Rattle.worked_rows.proofs.Conditions.{begun, holds_defined, holds_plain, names_defined, names_plain}
use Rattle.worked_rows.proofs.Facts.{no_choice}
use Rattle.worked_rows.proofs.Validity.{all_at, value_y}

-- the macro of HZ
abbrev pub config_hz : List ℕ
config_hz = codes "CONFIG_HZ"

-- the problem
abbrev problem : Problem
problem = over number_tree asks_twice

-- ---- the macro at the start

-- HZ is written under every configuration
always_written : (c : Configuration) → is_written number_tree c 0 ≡ true
always_written c = ap (λ v. not (v == 0) || false) (value_y number_tree c)

-- so in family Whole its macro is defined, with a free truth
pub start_in_whole : (x : Case) → macro_start (OfTree number_tree) family.Whole x 0 0 config_hz ≡ defined_as (x.environment (item.Truth 0 0))
start_in_whole x = ap (λ w. cond w (defined_as (x.environment (item.Truth 0 0))) Undefined) (always_written x.configuration)

-- and likewise in family Kconfig
start_in_kconfig : (x : Case) → macro_start (OfTree number_tree) family.Kconfig x 0 0 config_hz ≡ defined_as (x.environment (item.Truth 0 0))
start_in_kconfig x = ap (λ w. cond w (defined_as (x.environment (item.Truth 0 0))) Undefined) (always_written x.configuration)

-- whatever its truth, it is defined
is_there : (b : Bool) → is_defined (defined_as b) ≡ true
is_there true = refl
is_there false = refl

-- ---- when the blocks are on

-- the one name of the source
one_name : names_of asks_twice ≡ config_hz ∷ []
one_name = ap (λ ns. firsts text_eq [] (ns ++ (names_in (Plain config_hz) ++ []))) (names_defined config_hz)
    ∙ ap (λ ns. firsts text_eq [] (config_hz ∷ (ns ++ []))) (names_plain config_hz)

module _ (f : Family) (x : Case) where
  -- the start of the case
  abbrev start : Start
  start = start_in (shared problem) f x 0 (source_at problem 0)

  -- the macro there
  abbrev state : MacroState
  state = macro_start (OfTree number_tree) f x 0 0 config_hz

  -- what the conditions come to
  abbrev outer_at : Bool
  outer_at = holds start (begun start) (Defined config_hz)

  -- the source is built
  built : start.built ≡ true
  built = plain_is_built (shared problem) f x.configuration

  -- the outer condition holds where the macro is defined
  outer_is : (start.built && outer_at) ≡ is_defined state
  outer_is = ap (λ w. w && outer_at) built ∙ holds_defined start (begun start) config_hz
      ∙ ap (λ ns. is_defined (numbered_start (OfTree number_tree) f x 0 config_hz (position (text_eq config_hz) ns))) one_name

  -- and the inner one where it is true
  inner_is : holds start (opened (begun start) outer_at) (Plain config_hz) ≡ is_true state
  inner_is = holds_plain start (opened (begun start) outer_at) config_hz
      ∙ ap (λ ns. is_true (numbered_start (OfTree number_tree) f x 0 config_hz (position (text_eq config_hz) ns))) one_name

  -- block 1
  first_on : is_on problem f x (block 1) ≡ is_defined state
  first_on = outer_is

  -- block 2
  second_on : is_on problem f x (block 2) ≡ (is_defined state && is_true state)
  second_on = ap (λ h. (start.built && outer_at) && h) inner_is ∙ ap (λ h. h && is_true state) outer_is

  -- block 1 is dropped where the macro isn't defined
  first_dropped : (is_on problem f x (block 0) && not (is_on problem f x (block 1))) ≡ not (is_defined state)
  first_dropped = ap (λ c. c && not (is_on problem f x (block 1))) built ∙ ap not first_on

  -- block 2 is dropped where it is defined and not true
  second_dropped : (is_on problem f x (block 1) && not (is_on problem f x (block 2))) ≡ (is_defined state && not (is_defined state && is_true state))
  second_dropped = ap (λ c. c && not (is_on problem f x (block 2))) first_on ∙ ap (λ c. is_defined state && not c) second_on

-- ---- cases

-- the one configuration, and an environment in which all is true or false
abbrev case_at : Bool → Case
case_at b = record { configuration = all_at 0 (λ name. false); environment = λ i. b }

-- it is valid
zero_is_valid : IsValid number_tree (all_at 0 (λ name. false))
zero_is_valid = record {
  rules = record { values = λ k lt. omega arith; setting = λ k. None; calculated = record { gives = λ k lt own. at k lt }; choices = λ i lt. absurd (no_choice i lt) };
  undeclared_are_n = λ name. refl;
}
  where
    no_second : (k : ℕ) → suc k < 1 → ⊥
    no_second k h = omega arith

    at : (k : ℕ) → k < 1 → HasValueBy number_tree (all_at 0 (λ name. false)) None k
    at zero lt = (tt, refl)
    at (suc k) lt = absurd (no_second k lt)

-- the truth that its state has
second_at : (b : Bool) → (is_defined (defined_as b) && is_true (defined_as b)) ≡ b
second_at true = refl
second_at false = refl

-- ---- words

-- the block that asks whether the macro is defined
pub defined_word : (steps : ℕ) → IsWordOf problem steps none_spent (block 1) (Undead class.Kconfig)
defined_word steps = (
  (
    refl,
    selects problem (block 1) family.Whole (case_at true) (of_valid number_tree _ zero_is_valid)
        (first_on family.Whole (case_at true) ∙ ap is_defined (start_in_whole (case_at true))),
  ),
  (refl, never_drops problem (block 1) family.Whole (λ x v. first_dropped family.Whole x ∙ ap (λ s. not (is_defined s)) (start_in_whole x) ∙ ap not (is_there (x.environment (item.Truth 0 0))))),
  (
    (refl, drops problem (block 1) family.Code (case_at false) tt (first_dropped family.Code (case_at false))),
    (refl, never_drops problem (block 1) family.Kconfig (λ x v. first_dropped family.Kconfig x ∙ ap (λ s. not (is_defined s)) (start_in_kconfig x) ∙ ap not (is_there (x.environment (item.Truth 0 0))))),
  ),
)

-- the block that asks whether it is true
pub truth_word : (steps : ℕ) → IsWordOf problem steps none_spent (block 2) Live
truth_word steps = (
  (
    refl,
    selects problem (block 2) family.Whole (case_at true) (of_valid number_tree _ zero_is_valid)
        (second_on family.Whole (case_at true) ∙ ap (λ s. is_defined s && is_true s) (start_in_whole (case_at true)) ∙ second_at true),
  ),
  (
    refl,
    drops problem (block 2) family.Whole (case_at false) (of_valid number_tree _ zero_is_valid)
        (second_dropped family.Whole (case_at false) ∙ ap (λ s. is_defined s && not (is_defined s && is_true s)) (start_in_whole (case_at false))),
  ),
)

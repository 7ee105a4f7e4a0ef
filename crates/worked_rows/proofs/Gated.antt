-- The words on a block of a source that is built where A isn't n, and on the same block of one that is always built.
use Rattle.std.proofs.Common.{◌≡◌, ℕ, ◌==◌, Bool, true, false, not, ◌&&◌, ◌||◌, refl, ap, ◌∙◌, [], ◌∷◌, ◌++◌, position}
use Rattle.ut_text.specs.Text.{text_eq}
use Rattle.cpp_blocks.specs.Mentions.{firsts, names_of}
use Rattle.cpp_blocks.specs.Run.{Start, is_defined, holds}
use Rattle.cpp_directives.specs.declared.condition.Cond.TheVariants.{Defined, Neg}
use Rattle.kconf_tree.specs.Valid.{KeepsRules}
use Rattle.ut_case.specs.declared.question.Class.TheVariants as class
use Rattle.ut_case.specs.declared.question.Family.{Family}
use Rattle.ut_case.specs.declared.question.Family.TheVariants as family
use Rattle.ut_case.specs.declared.word.Word.TheVariants.{Dead, Live}
use Rattle.ut_case.specs.Cases.{Case}
use Rattle.ut_case.specs.Numbering.{shared}
use Rattle.ut_case.specs.On.{start_in, is_on}
use Rattle.ut_case.specs.Problem.{OfTree, source_at}
use Rattle.ut_case.specs.Starts.{numbered_start, macro_start}
use Rattle.ut_case.specs.Words.{IsWordOf}
use Rattle.worked_rows.specs.Problems.{three_sources, block, second_block, none_spent}
use Rattle.worked_rows.specs.Texts.{two_tree, without_a}
use Rattle.worked_rows.proofs.Asked.{plain_is_built, selects, never_selects, drops, of_valid}
use Rattle.worked_rows.proofs.Conditions.{begun, holds_undefined, names_undefined}
use Rattle.worked_rows.proofs.Macros.{config_a, defined_if, case_with}
use Rattle.worked_rows.proofs.Validity.{all_at, off_is_valid, on_is_valid, a_is_bool}

-- the one name of both sources
one_name : names_of without_a ≡ config_a ∷ []
one_name = ap (λ ns. firsts text_eq [] (ns ++ [])) (names_undefined config_a)

module _ (f : Family) (x : Case) (file : ℕ) where
  -- the start of a source
  abbrev start : Start
  start = start_in (shared three_sources) f x file (source_at three_sources file)

  -- whether A's macro is defined there
  abbrev a_defined : Bool
  a_defined = is_defined (macro_start (OfTree two_tree) f x file 0 config_a)

-- the block of the first source is on where the source is built and the macro isn't defined
gated_on : (f : Family) (x : Case) → is_on three_sources f x (block 1) ≡ ((start f x 0).built && not (a_defined f x 0))
gated_on f x = ap (λ h. (start f x 0).built && h) (holds_undefined (start f x 0) (begun (start f x 0)) config_a
    ∙ ap (λ ns. not (is_defined (numbered_start (OfTree two_tree) f x 0 config_a (position (text_eq config_a) ns)))) one_name)

-- that of the second one where the macro isn't
plain_on : (f : Family) (x : Case) → is_on three_sources f x (second_block 1) ≡ not (a_defined f x 1)
plain_on f x = ap (λ w. w && holds (start f x 1) (begun (start f x 1)) (Neg (Defined config_a))) (plain_is_built (shared three_sources) f x.configuration)
    ∙ holds_undefined (start f x 1) (begun (start f x 1)) config_a
    ∙ ap (λ ns. not (is_defined (numbered_start (OfTree two_tree) f x 1 config_a (position (text_eq config_a) ns)))) one_name

-- the second source itself is on
plain_file_on : (f : Family) (x : Case) → is_on three_sources f x (second_block 0) ≡ true
plain_file_on f x = plain_is_built (shared three_sources) f x.configuration

-- what isn't n is y
not_both : (n y : Bool) → (n ≡ false → y ≡ true) → (((not n && true) || false) && not y) ≡ false
not_both true y h = refl
not_both false y h = ap not (h refl)

-- where the rules are kept, the source isn't built without A's macro
never_on : (x : Case) → KeepsRules two_tree x.configuration → (((not (x.configuration.value 0 == 0) && true) || false) && not (a_defined family.Whole x 0)) ≡ false
never_on x r = ap (λ d. ((not (x.configuration.value 0 == 0) && true) || false) && not d) (defined_if (x.configuration.value 0 == 2))
    ∙ not_both (x.configuration.value 0 == 0) (x.configuration.value 0 == 2) (a_is_bool x.configuration r)

-- every symbol has this value, and no macro that starts free is defined
abbrev case_at : ℕ → Case
case_at value = case_with (all_at value (λ name. false)) 1

-- ---- words

-- the block of the source that A builds
pub gated_word : (steps : ℕ) → IsWordOf three_sources steps none_spent (block 1) (Dead class.Kconfig)
gated_word steps = (
  (refl, never_selects three_sources (block 1) family.Whole (λ x v. gated_on family.Whole x ∙ never_on x v.0)),
  (
    (refl, selects three_sources (block 1) family.Code (case_at 0) tt (gated_on family.Code (case_at 0))),
    (refl, never_selects three_sources (block 1) family.Kconfig (λ x v. gated_on family.Kconfig x ∙ never_on x v)),
  ),
)

-- that of the source which is always built
pub plain_word : (steps : ℕ) → IsWordOf three_sources steps none_spent (second_block 1) Live
plain_word steps = (
  (refl, selects three_sources (second_block 1) family.Whole (case_at 0) (of_valid two_tree _ off_is_valid) (plain_on family.Whole (case_at 0))),
  (
    refl,
    drops three_sources (second_block 1) family.Whole (case_at 2) (of_valid two_tree _ on_is_valid)
        (ap (λ c. c && not (is_on three_sources family.Whole (case_at 2) (second_block 1))) (plain_file_on family.Whole (case_at 2)) ∙ ap not (plain_on family.Whole (case_at 2))),
  ),
)

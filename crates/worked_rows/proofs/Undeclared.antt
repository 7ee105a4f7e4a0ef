-- The words on a block that asks for a name which is declared nowhere, and on its `#else`; and the state of its macro.
use Rattle.std.proofs.Common.{◌≡◌, ℕ, Bool, true, false, not, ◌&&◌, refl, ap, ◌∙◌, List, [], ◌∷◌, ◌++◌, codes, position}
use Rattle.ut_text.specs.Text.{text_eq}
use Rattle.cpp_blocks.specs.declared.state.MacroState.TheVariants.{Undefined}
use Rattle.cpp_blocks.specs.Mentions.{firsts, names_of}
use Rattle.cpp_blocks.specs.Run.{Start, is_defined, holds}
use Rattle.cpp_directives.specs.declared.condition.Cond.TheVariants.{Defined}
use Rattle.ut_case.specs.declared.question.Class.TheVariants as class
use Rattle.ut_case.specs.declared.question.Family.{Family}
use Rattle.ut_case.specs.declared.question.Family.TheVariants as family
use Rattle.ut_case.specs.declared.word.Word.TheVariants.{Dead, Undead}
use Rattle.ut_case.specs.Cases.{Case, IsCaseOf}
use Rattle.ut_case.specs.Numbering.{shared}
use Rattle.ut_case.specs.On.{start_in, is_on}
use Rattle.ut_case.specs.Problem.{Basis, OfTree, Problem, source_at}
use Rattle.ut_case.specs.Starts.{macro_start, numbered_start, free_start, present_if}
use Rattle.ut_case.specs.Words.{IsWordOf}
use Rattle.worked_rows.specs.Problems.{with_names, block, none_spent}
use Rattle.worked_rows.specs.Texts.{two_tree, undeclared}
use Rattle.worked_rows.proofs.Asked.{plain_is_built, selects, never_selects, drops, never_drops, of_valid}
use Rattle.worked_rows.proofs.Conditions.{begun, holds_defined, names_defined}
use Rattle.worked_rows.proofs.Validity.{all_at, off_keeps_rules, off_is_valid}

-- the macro that the source asks for
abbrev pub asked : List ℕ
asked = codes "CONFIG_TYPO"

-- the tree of A and B
abbrev pub two : Basis
two = OfTree two_tree

-- the problem, with its undeclared name
abbrev pub problem : Problem
problem = with_names two (codes "TYPO" ∷ []) undeclared

-- ---- the macro at the start

-- in family Code it is in any state
pub free_in_code : (x : Case) → macro_start two family.Code x 0 0 asked ≡ free_start x 0 0
free_in_code x = refl

-- in family Kconfig its name is read as n or y
pub read_in_kconfig : (x : Case) → macro_start two family.Kconfig x 0 0 asked ≡ present_if (x.configuration.undeclared (codes "TYPO"))
read_in_kconfig x = refl

-- in a valid configuration it is undefined
pub undefined_in_whole : (x : Case) → IsCaseOf problem family.Whole x → macro_start two family.Whole x 0 0 asked ≡ Undefined
undefined_in_whole x v = ap present_if (v.1 (codes "TYPO"))

-- ---- when the blocks are on

-- the one name of the source
pub one_name : names_of undeclared ≡ asked ∷ []
one_name = ap (λ ns. firsts text_eq [] (ns ++ [])) (names_defined asked)

-- a truth with nothing beside it
and_true : (b : Bool) → (b && true) ≡ b
and_true true = refl
and_true false = refl

module _ (f : Family) (x : Case) where
  -- the start of the case
  abbrev start : Start
  start = start_in (shared problem) f x 0 (source_at problem 0)

  -- whether the macro is defined there
  abbrev defined : Bool
  defined = is_defined (macro_start two f x 0 0 asked)

  -- the condition holds where it is
  condition_is : holds start (begun start) (Defined asked) ≡ defined
  condition_is = holds_defined start (begun start) asked ∙ ap (λ ns. is_defined (numbered_start two f x 0 asked (position (text_eq asked) ns))) one_name

  -- the source is built
  built : start.built ≡ true
  built = plain_is_built (shared problem) f x.configuration

  -- block 1 is on where the macro is defined at the start
  first_on : is_on problem f x (block 1) ≡ defined
  first_on = ap (λ w. w && holds start (begun start) (Defined asked)) built ∙ condition_is

  -- block 2 is on where it isn't
  second_on : is_on problem f x (block 2) ≡ not defined
  second_on = ap (λ w. w && (not (w && holds start (begun start) (Defined asked)) && true)) built ∙ ap (λ c. not c && true) condition_is ∙ and_true (not defined)

  -- the block round both
  file_on : is_on problem f x (block 0) ≡ true
  file_on = built

  -- block 2 is dropped where the macro is defined
  second_dropped : (is_on problem f x (block 0) && not (is_on problem f x (block 2))) ≡ not (not defined)
  second_dropped = ap (λ c. c && not (is_on problem f x (block 2))) file_on ∙ ap not second_on

-- ---- cases

-- every symbol is n; undeclared names are read as this says, and macros that start free are all defined or not
abbrev off_case : Bool → Bool → Case
off_case read_as_y defined = record { configuration = all_at 0 (λ name. read_as_y); environment = λ i. defined }

-- in a valid configuration the macro isn't defined
never_defined : (x : Case) → IsCaseOf problem family.Whole x → is_defined (macro_start two family.Whole x 0 0 asked) ≡ false
never_defined x v = ap is_defined (undefined_in_whole x v)

-- ---- words

-- block 1 is dead since the name is missing
pub first_word : (steps : ℕ) → IsWordOf problem steps none_spent (block 1) (Dead class.Missing)
first_word steps = (
  (refl, never_selects problem (block 1) family.Whole (λ x v. first_on family.Whole x ∙ never_defined x v)),
  (
    (refl, selects problem (block 1) family.Code (off_case false true) tt (first_on family.Code (off_case false true))),
    (refl, selects problem (block 1) family.Kconfig (off_case true false) (off_keeps_rules (λ name. true)) (first_on family.Kconfig (off_case true false))),
  ),
)

-- block 2 is undead for the same reason
pub second_word : (steps : ℕ) → IsWordOf problem steps none_spent (block 2) (Undead class.Missing)
second_word steps = (
  (refl, selects problem (block 2) family.Whole (off_case false false) (of_valid two_tree _ off_is_valid) (second_on family.Whole (off_case false false))),
  (refl, never_drops problem (block 2) family.Whole (λ x v. second_dropped family.Whole x ∙ ap (λ c. not (not c)) (never_defined x v))),
  (
    (refl, drops problem (block 2) family.Code (off_case false true) tt (second_dropped family.Code (off_case false true))),
    (refl, drops problem (block 2) family.Kconfig (off_case true false) (off_keeps_rules (λ name. true)) (second_dropped family.Kconfig (off_case true false))),
  ),
)

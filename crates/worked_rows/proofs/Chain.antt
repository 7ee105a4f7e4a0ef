-- The words on the groups of one chain: after a macro line, and where two groups ask for the same.
use Rattle.std.proofs.Common.{◌≡◌, ℕ, Bool, true, false, not, ◌&&◌, cond, refl, ap, ◌∙◌, List, codes}
use Rattle.cpp_directives.specs.declared.condition.Cond.TheVariants.{Defined}
use Rattle.cpp_directives.specs.declared.directive.Directive.{Directive}
use Rattle.cpp_directives.specs.declared.directive.Gives.TheVariants.{Free}
use Rattle.cpp_blocks.specs.declared.state.MacroState.TheVariants.{DefinedFalse, DefinedTrue}
use Rattle.cpp_blocks.specs.Run.{Start, is_defined, holds, opened, sets, given}
use Rattle.ut_case.specs.declared.question.Class.TheVariants as class
use Rattle.ut_case.specs.declared.question.Family.{Family}
use Rattle.ut_case.specs.declared.question.Family.TheVariants as family
use Rattle.ut_case.specs.declared.word.Word.TheVariants.{Dead, Undead}
use Rattle.ut_case.specs.Cases.{Case}
use Rattle.ut_case.specs.Numbering.{shared}
use Rattle.ut_case.specs.On.{start_in, is_on}
use Rattle.ut_case.specs.Problem.{source_at}
use Rattle.ut_case.specs.Words.{IsWordOf}
use Rattle.worked_rows.specs.Problems.{over, block, none_spent}
use Rattle.worked_rows.specs.Texts.{two_tree, behind_define, same_twice}
use Rattle.worked_rows.proofs.Asked.{plain_is_built, selects, never_selects, never_drops, of_valid}
use Rattle.worked_rows.proofs.Conditions.{begun, holds_defined}
use Rattle.worked_rows.proofs.Macros.{config_a, case_with}
use Rattle.worked_rows.proofs.Validity.{all_at, off_is_valid}

-- the macro of the `#define`
abbrev name : List ℕ
name = codes "SEEN"

module _ (f : Family) (x : Case) (ds : List Directive) where
  -- the start of the case
  abbrev start : Start
  start = start_in (shared (over two_tree ds)) f x 0 (source_at (over two_tree ds) 0)

  -- the source is built
  built : start.built ≡ true
  built = plain_is_built (shared (over two_tree ds)) f x.configuration

  -- ---- after `#define SEEN ..`

  -- whatever its body, the macro is defined
  given_defined : (b : Bool) → is_defined (cond b DefinedTrue DefinedFalse) ≡ true
  given_defined true = refl
  given_defined false = refl

  -- what the condition after it comes to
  abbrev seen_holds : Bool
  seen_holds = holds start (sets (begun start) name (given start 1 Free)) (Defined name)

  -- after the line its macro is defined
  seen : seen_holds ≡ true
  seen = holds_defined start (sets (begun start) name (given start 1 Free)) name
      ∙ ap (λ w. is_defined (cond (w && true) (given start 1 Free) (start.macros name))) built ∙ given_defined (start.line 1)

  -- so the block that asks for it is on
  seen_on : (start.built && seen_holds) ≡ true
  seen_on = ap (λ w. w && seen_holds) built ∙ seen

  -- and its `#else` is off
  seen_off : (start.built && (not (start.built && seen_holds) && true)) ≡ false
  seen_off = ap (λ w. w && (not (w && seen_holds) && true)) built ∙ ap (λ h. not h && true) seen

  -- ---- `#ifdef CONFIG_A` and `#elif defined CONFIG_A`

  -- whether the first condition holds
  abbrev first_holds : Bool
  first_holds = holds start (begun start) (Defined config_a)

  -- and the second one after it
  abbrev second_holds : Bool
  second_holds = holds start (opened (begun start) first_holds) (Defined config_a)

  -- not both the contrary and the same
  same_fails : (b : Bool) → (not b && b) ≡ false
  same_fails true = refl
  same_fails false = refl

  -- where the second condition holds, the first group was on
  twice_off : (start.built && (not (start.built && first_holds) && second_holds)) ≡ false
  twice_off = ap (λ w. w && (not (w && first_holds) && second_holds)) built
      ∙ ap (λ h. not h && second_holds) (holds_defined start (begun start) config_a)
      ∙ ap (λ h. not (is_defined (start.macros config_a)) && h) (holds_defined start (opened (begun start) first_holds) config_a)
      ∙ same_fails (is_defined (start.macros config_a))

-- the first block of the first source is on
first_on : (f : Family) (x : Case) → is_on (over two_tree behind_define) f x (block 1) ≡ true
first_on f x = seen_on f x behind_define

-- its second block is off
second_off : (f : Family) (x : Case) → is_on (over two_tree behind_define) f x (block 2) ≡ false
second_off f x = seen_off f x behind_define

-- and so is that of the second source
same_off : (f : Family) (x : Case) → is_on (over two_tree same_twice) f x (block 2) ≡ false
same_off f x = twice_off f x same_twice

-- what is on isn't dropped
not_dropped : (f : Family) (x : Case) → (is_on (over two_tree behind_define) f x (block 0) && not (is_on (over two_tree behind_define) f x (block 1))) ≡ false
not_dropped f x = ap (λ c. is_on (over two_tree behind_define) f x (block 0) && not c) (first_on f x) ∙ and_false (is_on (over two_tree behind_define) f x (block 0))
  where
    and_false : (b : Bool) → (b && false) ≡ false
    and_false true = refl
    and_false false = refl

-- every symbol is n
abbrev off_case : Case
off_case = case_with (all_at 0 (λ name. false)) 0

-- ---- words

-- the block that asks for the macro
pub seen_first : (steps : ℕ) → IsWordOf (over two_tree behind_define) steps none_spent (block 1) (Undead class.Code)
seen_first steps = (
  (refl, selects (over two_tree behind_define) (block 1) family.Whole off_case (of_valid two_tree _ off_is_valid) (first_on family.Whole off_case)),
  (refl, never_drops (over two_tree behind_define) (block 1) family.Whole (λ x v. not_dropped family.Whole x)),
  (refl, never_drops (over two_tree behind_define) (block 1) family.Code (λ x v. not_dropped family.Code x)),
)

-- its `#else`
pub seen_second : (steps : ℕ) → IsWordOf (over two_tree behind_define) steps none_spent (block 2) (Dead class.Code)
seen_second steps = (
  (refl, never_selects (over two_tree behind_define) (block 2) family.Whole (λ x v. second_off family.Whole x)),
  (refl, never_selects (over two_tree behind_define) (block 2) family.Code (λ x v. second_off family.Code x)),
)

-- the `#elif`
pub same_second : (steps : ℕ) → IsWordOf (over two_tree same_twice) steps none_spent (block 2) (Dead class.Code)
same_second steps = (
  (refl, never_selects (over two_tree same_twice) (block 2) family.Whole (λ x v. same_off family.Whole x)),
  (refl, never_selects (over two_tree same_twice) (block 2) family.Code (λ x v. same_off family.Code x)),
)

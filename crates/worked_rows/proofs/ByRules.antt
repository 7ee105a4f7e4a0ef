-- The words on a group in a group, from what the rules of the Kconfig texts say of the two macros.
use Rattle.std.proofs.Common.{◌≡◌, ℕ, Bool, true, false, not, ◌&&◌, refl, ap, ◌∙◌, List, position}
use Rattle.ut_text.specs.Text.{text_eq}
use Rattle.cpp_blocks.specs.Run.{is_defined}
use Rattle.ut_case.specs.declared.question.Ask.TheVariants.{Selected, Dropped}
use Rattle.ut_case.specs.declared.question.Class.TheVariants as class
use Rattle.ut_case.specs.declared.question.Family.{Family}
use Rattle.ut_case.specs.declared.question.Family.TheVariants as family
use Rattle.ut_case.specs.declared.word.Word.TheVariants.{Dead, Undead, Live}
use Rattle.ut_case.specs.Cases.{Case, Keeps, IsCaseOf}
use Rattle.ut_case.specs.On.{is_on}
use Rattle.ut_case.specs.Problem.{Basis, Problem}
use Rattle.ut_case.specs.Questions.{question_on, CanNotBe}
use Rattle.ut_case.specs.Words.{IsWordOf}
use Rattle.worked_rows.specs.Problems.{with_names, block, none_spent}
use Rattle.worked_rows.specs.Texts.{ifdef, ifndef, nested}
use Rattle.worked_rows.proofs.Asked.{selects, never_selects, drops, never_drops, kept_in_whole}
use Rattle.worked_rows.proofs.Nested.{two_names, macro_in, same_start, file_on, file_on_negated, outer_on, outer_on_negated, inner_on, inner_on_negated}

module _ (b : Basis) (names : List (List ℕ)) (steps : ℕ) (outer inner : List ℕ) where
  -- whether a macro is defined at the start
  abbrev in_family : Family → Case → List ℕ → Bool
  in_family f x macro = is_defined (macro_in b f x outer inner macro)

  -- in families Kconfig and Whole alike
  as_whole : (x : Case) (macro : List ℕ) → in_family family.Kconfig x macro ≡ in_family family.Whole x macro
  as_whole x macro = ap is_defined (same_start b x macro (position (text_eq macro) (two_names outer inner)))

  -- the two sources
  abbrev both : Problem
  both = with_names b names (nested (ifdef outer) (ifdef inner))

  abbrev negated : Problem
  negated = with_names b names (nested (ifdef outer) (ifndef inner))

  -- ---- the outer block

  -- it can be selected and dropped
  pub live_outer : (on off : Case) → IsCaseOf both family.Whole on → IsCaseOf both family.Whole off → in_family family.Whole on outer ≡ true → in_family family.Whole off outer ≡ false
      → IsWordOf both steps none_spent (block 1) Live
  live_outer on off v w h g = (
    (refl, selects both (block 1) family.Whole on v (outer_on b names family.Whole on outer inner ∙ h)),
    (
      refl,
      drops both (block 1) family.Whole off w (ap (λ c. c && not (is_on both family.Whole off (block 1))) (file_on b names family.Whole off outer inner)
          ∙ ap not (outer_on b names family.Whole off outer inner ∙ g)),
    ),
  )

  -- likewise round the contrary of the inner one
  pub live_outer_negated : (on off : Case) → IsCaseOf negated family.Whole on → IsCaseOf negated family.Whole off → in_family family.Whole on outer ≡ true → in_family family.Whole off outer ≡ false
      → IsWordOf negated steps none_spent (block 1) Live
  live_outer_negated on off v w h g = (
    (refl, selects negated (block 1) family.Whole on v (outer_on_negated b names family.Whole on outer inner ∙ h)),
    (
      refl,
      drops negated (block 1) family.Whole off w (ap (λ c. c && not (is_on negated family.Whole off (block 1))) (file_on_negated b names family.Whole off outer inner)
          ∙ ap not (outer_on_negated b names family.Whole off outer inner ∙ g)),
    ),
  )

  -- ---- the inner block is never on

  -- where the rules never allow both
  never_both : (f : Family) → ((x : Case) → IsCaseOf both f x → (in_family f x outer && in_family f x inner) ≡ false) → CanNotBe both (question_on both (block 2) f Selected)
  never_both f n = never_selects both (block 2) f (λ x v. inner_on b names f x outer inner ∙ n x v)

  never_without : (f : Family) → ((x : Case) → IsCaseOf negated f x → (in_family f x outer && not (in_family f x inner)) ≡ false) → CanNotBe negated (question_on negated (block 2) f Selected)
  never_without f n = never_selects negated (block 2) f (λ x v. inner_on_negated b names f x outer inner ∙ n x v)

  -- but the states of the macros alone would
  pub dead_together : (free : Case) → (in_family family.Code free outer && in_family family.Code free inner) ≡ true
      → ((x : Case) → Keeps b x.configuration → (in_family family.Whole x outer && in_family family.Whole x inner) ≡ false) → IsWordOf both steps none_spent (block 2) (Dead class.Kconfig)
  dead_together free h never = (
    (refl, never_both family.Whole (λ x v. never x (kept_in_whole both x v))),
    (
      (refl, selects both (block 2) family.Code free tt (inner_on b names family.Code free outer inner ∙ h)),
      (refl, never_both family.Kconfig (λ x v. ap (λ c. c && in_family family.Kconfig x inner) (as_whole x outer) ∙ ap (λ c. in_family family.Whole x outer && c) (as_whole x inner) ∙ never x v)),
    ),
  )

  -- where the rules don't allow one without the other
  pub dead_without : (free : Case) → (in_family family.Code free outer && not (in_family family.Code free inner)) ≡ true
      → ((x : Case) → Keeps b x.configuration → (in_family family.Whole x outer && not (in_family family.Whole x inner)) ≡ false) → IsWordOf negated steps none_spent (block 2) (Dead class.Kconfig)
  dead_without free h never = (
    (refl, never_without family.Whole (λ x v. never x (kept_in_whole negated x v))),
    (
      (refl, selects negated (block 2) family.Code free tt (inner_on_negated b names family.Code free outer inner ∙ h)),
      (refl, never_without family.Kconfig (λ x v. ap (λ c. c && not (in_family family.Kconfig x inner)) (as_whole x outer) ∙ ap (λ c. in_family family.Whole x outer && not c) (as_whole x inner) ∙ never x v)),
    ),
  )

  -- where the states of the macros alone don't
  pub dead_by_code : ((f : Family) (x : Case) → (in_family f x outer && not (in_family f x inner)) ≡ false) → IsWordOf negated steps none_spent (block 2) (Dead class.Code)
  dead_by_code never = ((refl, never_without family.Whole (λ x v. never family.Whole x)), (refl, never_without family.Code (λ x v. never family.Code x)))

  -- ---- the inner block is on wherever the outer one is

  -- never the one without the other
  never_dropped : (f : Family) → ((x : Case) → IsCaseOf both f x → (in_family f x outer && not (in_family f x inner)) ≡ false) → CanNotBe both (question_on both (block 2) f Dropped)
  never_dropped f n = never_drops both (block 2) f (λ x v. dropped_is f x ∙ not_both (in_family f x outer) (in_family f x inner) (n x v))
    where
      not_both : (o i : Bool) → (o && not i) ≡ false → (o && not (o && i)) ≡ false
      not_both true true h = refl
      not_both true false h = h
      not_both false i h = refl

      dropped_is : (f : Family) (x : Case) → (is_on both f x (block 1) && not (is_on both f x (block 2))) ≡ (in_family f x outer && not (in_family f x outer && in_family f x inner))
      dropped_is f x = ap (λ c. c && not (is_on both f x (block 2))) (outer_on b names f x outer inner) ∙ ap (λ c. in_family f x outer && not c) (inner_on b names f x outer inner)

  -- by the code alone
  pub undead_by_code : (on : Case) → IsCaseOf both family.Whole on → (in_family family.Whole on outer && in_family family.Whole on inner) ≡ true
      → ((f : Family) (x : Case) → (in_family f x outer && not (in_family f x inner)) ≡ false) → IsWordOf both steps none_spent (block 2) (Undead class.Code)
  undead_by_code on v h never = (
    (refl, selects both (block 2) family.Whole on v (inner_on b names family.Whole on outer inner ∙ h)),
    (refl, never_dropped family.Whole (λ x v. never family.Whole x)),
    (refl, never_dropped family.Code (λ x v. never family.Code x)),
  )

  -- by the rules of the Kconfig texts
  pub undead_by_rules : (on : Case) → IsCaseOf both family.Whole on → (in_family family.Whole on outer && in_family family.Whole on inner) ≡ true
      → (free : Case) → (in_family family.Code free outer && not (in_family family.Code free inner)) ≡ true
      → ((x : Case) → Keeps b x.configuration → (in_family family.Whole x outer && not (in_family family.Whole x inner)) ≡ false) → IsWordOf both steps none_spent (block 2) (Undead class.Kconfig)
  undead_by_rules on v h free g never = (
    (refl, selects both (block 2) family.Whole on v (inner_on b names family.Whole on outer inner ∙ h)),
    (refl, never_dropped family.Whole (λ x v. never x (kept_in_whole both x v))),
    (
      (refl, drops both (block 2) family.Code free tt (dropped_at free)),
      (refl, never_dropped family.Kconfig (λ x v. ap (λ c. c && not (in_family family.Kconfig x inner)) (as_whole x outer) ∙ ap (λ c. in_family family.Whole x outer && not c) (as_whole x inner) ∙ never x v)),
    ),
  )
    where
      one_alone : (o i : Bool) → (o && not i) ≡ true → (o && not (o && i)) ≡ true
      one_alone true true h = h
      one_alone true false h = refl
      one_alone false i h = h

      dropped_at : (x : Case) → (is_on both family.Code free (block 1) && not (is_on both family.Code free (block 2))) ≡ true
      dropped_at x = ap (λ c. c && not (is_on both family.Code free (block 2))) (outer_on b names family.Code free outer inner)
          ∙ ap (λ c. in_family family.Code free outer && not c) (inner_on b names family.Code free outer inner)
          ∙ one_alone (in_family family.Code free outer) (in_family family.Code free inner) g

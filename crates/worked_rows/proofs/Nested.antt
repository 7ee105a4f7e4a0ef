-- When the blocks of a group in a group are on, where each asks for a macro or that it isn't defined.
use Rattle.std.proofs.Common.{◌≡◌, ℕ, Bool, true, not, ◌&&◌, refl, ap, ◌∙◌, List, [], ◌∷◌, ◌++◌, Option, None, Some, position}
use Rattle.ut_text.specs.Text.{text_eq}
use Rattle.cpp_blocks.specs.declared.state.MacroState.{MacroState}
use Rattle.cpp_blocks.specs.Mentions.{firsts, names_in, names_of}
use Rattle.cpp_blocks.specs.Run.{Start, is_defined, holds, opened}
use Rattle.cpp_directives.specs.declared.condition.Cond.TheVariants.{Defined, Neg}
use Rattle.cpp_directives.specs.declared.directive.Directive.{Directive}
use Rattle.ut_case.specs.declared.question.Family.{Family}
use Rattle.ut_case.specs.declared.question.Family.TheVariants as family
use Rattle.ut_case.specs.Cases.{Case}
use Rattle.ut_case.specs.Numbering.{shared}
use Rattle.ut_case.specs.On.{start_in, is_on}
use Rattle.ut_case.specs.Problem.{Basis, source_at}
use Rattle.ut_case.specs.Starts.{numbered_start}
use Rattle.worked_rows.specs.Problems.{with_names, block}
use Rattle.worked_rows.specs.Texts.{ifdef, ifndef, nested}
use Rattle.worked_rows.proofs.Asked.{plain_is_built}
use Rattle.worked_rows.proofs.Conditions.{begun, holds_defined, holds_undefined, names_defined, names_undefined}

-- the names of the source, in order of first appearance
abbrev pub two_names : List ℕ → List ℕ → List (List ℕ)
two_names outer inner = firsts text_eq [] (outer ∷ inner ∷ [])

-- both groups ask for a macro
names_both : (outer inner : List ℕ) → names_of (nested (ifdef outer) (ifdef inner)) ≡ two_names outer inner
names_both outer inner = ap (λ ns. firsts text_eq [] (ns ++ (names_in (Defined inner) ++ []))) (names_defined outer)
    ∙ ap (λ ns. firsts text_eq [] (outer ∷ (ns ++ []))) (names_defined inner)

-- the inner one asks that its own isn't defined
names_negated : (outer inner : List ℕ) → names_of (nested (ifdef outer) (ifndef inner)) ≡ two_names outer inner
names_negated outer inner = ap (λ ns. firsts text_eq [] (ns ++ (names_in (Neg (Defined inner)) ++ []))) (names_defined outer)
    ∙ ap (λ ns. firsts text_eq [] (outer ∷ (ns ++ []))) (names_undefined inner)

-- the state at the start of a macro of such a source
abbrev pub macro_in : Basis → Family → Case → List ℕ → List ℕ → List ℕ → MacroState
macro_in b f x outer inner macro = numbered_start b f x 0 macro (position (text_eq macro) (two_names outer inner))

module _ (b : Basis) (names : List (List ℕ)) (f : Family) (x : Case) (outer inner : List ℕ) where
  -- whether a macro is defined at the start
  abbrev defined : List ℕ → Bool
  defined macro = is_defined (macro_in b f x outer inner macro)

  module _ (ds : List Directive) (same : names_of ds ≡ two_names outer inner) where
    -- the start of the case
    abbrev start : Start
    start = start_in (shared (with_names b names ds)) f x 0 (source_at (with_names b names ds) 0)

    -- a macro's state there
    macro_is : (macro : List ℕ) → is_defined (start.macros macro) ≡ defined macro
    macro_is macro = ap (λ ns. is_defined (numbered_start b f x 0 macro (position (text_eq macro) ns))) same

    -- the source is built
    built : start.built ≡ true
    built = plain_is_built (shared (with_names b names ds)) f x.configuration

    -- the outer condition holds where its macro is defined
    outer_holds : (start.built && holds start (begun start) (Defined outer)) ≡ defined outer
    outer_holds = ap (λ w. w && holds start (begun start) (Defined outer)) built ∙ holds_defined start (begun start) outer ∙ macro_is outer

    -- what the outer condition comes to
    abbrev outer_at : Bool
    outer_at = holds start (begun start) (Defined outer)

    -- the inner condition holds besides where its macro is defined
    inner_holds : ((start.built && outer_at) && holds start (opened (begun start) outer_at) (Defined inner)) ≡ (defined outer && defined inner)
    inner_holds = ap (λ h. (start.built && outer_at) && h) (holds_defined start (opened (begun start) outer_at) inner ∙ macro_is inner)
        ∙ ap (λ h. h && defined inner) outer_holds

    -- and its negation where it isn't
    inner_fails : ((start.built && outer_at) && holds start (opened (begun start) outer_at) (Neg (Defined inner))) ≡ (defined outer && not (defined inner))
    inner_fails = ap (λ h. (start.built && outer_at) && h) (holds_undefined start (opened (begun start) outer_at) inner ∙ ap not (macro_is inner))
        ∙ ap (λ h. h && not (defined inner)) outer_holds

  -- block 0 is on
  pub file_on : is_on (with_names b names (nested (ifdef outer) (ifdef inner))) f x (block 0) ≡ true
  file_on = built (nested (ifdef outer) (ifdef inner)) (names_both outer inner)

  pub file_on_negated : is_on (with_names b names (nested (ifdef outer) (ifndef inner))) f x (block 0) ≡ true
  file_on_negated = built (nested (ifdef outer) (ifndef inner)) (names_negated outer inner)

  -- the outer block is on where its macro is defined at the start
  pub outer_on : is_on (with_names b names (nested (ifdef outer) (ifdef inner))) f x (block 1) ≡ defined outer
  outer_on = outer_holds (nested (ifdef outer) (ifdef inner)) (names_both outer inner)

  -- likewise round a block that asks that the inner macro isn't
  pub outer_on_negated : is_on (with_names b names (nested (ifdef outer) (ifndef inner))) f x (block 1) ≡ defined outer
  outer_on_negated = outer_holds (nested (ifdef outer) (ifndef inner)) (names_negated outer inner)

  -- the inner block is on where both are defined
  pub inner_on : is_on (with_names b names (nested (ifdef outer) (ifdef inner))) f x (block 2) ≡ (defined outer && defined inner)
  inner_on = inner_holds (nested (ifdef outer) (ifdef inner)) (names_both outer inner)

  -- or where the outer one is, and the inner one isn't
  pub inner_on_negated : is_on (with_names b names (nested (ifdef outer) (ifndef inner))) f x (block 2) ≡ (defined outer && not (defined inner))
  inner_on_negated = inner_fails (nested (ifdef outer) (ifndef inner)) (names_negated outer inner)

-- families Kconfig and Whole give a macro one state
pub same_start : (b : Basis) (x : Case) (macro : List ℕ) (n : Option ℕ) → numbered_start b family.Kconfig x 0 macro n ≡ numbered_start b family.Whole x 0 macro n
same_start b x macro None = refl
same_start b x macro (Some n) = refl

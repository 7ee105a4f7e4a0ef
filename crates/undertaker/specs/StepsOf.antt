-- The steps of a source under declared names: each wish has the number of its macro and what its name means.
use Rattle.std.specs.Prelude.{◌≡◌, ℕ, ◌<◌, true, List, [], ◌∷◌, length, get_or}
use Rattle.ut_text.specs.Text.{text_eq}
use Rattle.cpp_directives.specs.declared.directive.Directive.{Directive}
use Rattle.undertaker.specs.declared.steps.Step.{Step}
use Rattle.undertaker.specs.declared.steps.Step.TheVariants.{Opens, Closes}
use Rattle.undertaker.specs.Wishes.{macro_of}
use Rattle.undertaker.specs.Meanings.{meaning_under}
use Rattle.undertaker.specs.Steps.{StandFor}

-- a wish has the meaning of its macro's name
abbrev pub IsMeant : List (List ℕ) → List (List ℕ) → Step → Type 0
IsMeant names macros (Opens w) = w.meaning ≡ meaning_under names (macro_of macros w)
IsMeant names macros Closes = Unit {0}

abbrev pub AreMeant : List (List ℕ) → List (List ℕ) → List Step → Type 0
AreMeant names macros [] = Unit {0}
AreMeant names macros (s ∷ ss) = IsMeant names macros s × AreMeant names macros ss

-- each name stands once
abbrev pub AreDistinct : List (List ℕ) → Type 0
AreDistinct names = (i j : ℕ) → i < length names → j < length names → text_eq (get_or names i []) (get_or names j []) ≡ true → i ≡ j

-- for some numbering of the source's macros
pub record AreStepsOf (names : List (List ℕ)) (ds : List Directive) (steps : List Step) : Type 0 where
  pub macros : List (List ℕ)
  pub distinct : AreDistinct macros
  pub stand : StandFor macros steps ds
  pub meant : AreMeant names macros steps

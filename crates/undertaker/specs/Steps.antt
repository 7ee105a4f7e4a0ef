-- The directives of a source without macro lines as steps, and the wishes of its blocks: each block asks what
-- the blocks round it ask and its own condition.
use Rattle.std.specs.Prelude.{◌≡◌, ℕ, ◌<◌, List, [], ◌∷◌, length}
use Rattle.cpp_directives.specs.declared.directive.Directive.{Directive}
use Rattle.cpp_directives.specs.declared.directive.What.TheVariants.{If, Endif}
use Rattle.undertaker.specs.declared.wishes.Wish.{Wish}
use Rattle.undertaker.specs.declared.steps.Step.{Step}
use Rattle.undertaker.specs.declared.steps.Step.TheVariants.{Opens, Closes}
use Rattle.undertaker.specs.Plain.{cond_of}
use Rattle.undertaker.specs.Wishes.{macro_of}

-- the step stands for the directive, where `macros` are the names by number
abbrev pub StandsFor : List (List ℕ) → Step → Directive → Type 0
StandsFor macros (Opens w) d = (w.name < length macros) × (d.what ≡ If (cond_of (macro_of macros w) w.defined))
StandsFor macros Closes d = d.what ≡ Endif

abbrev pub StandFor : List (List ℕ) → List Step → List Directive → Type 0
StandFor macros [] [] = Unit {0}
StandFor macros (s ∷ ss) [] = ⊥
StandFor macros [] (d ∷ ds) = ⊥
StandFor macros (s ∷ ss) (d ∷ ds) = StandsFor macros s d × StandFor macros ss ds

-- the open wishes after a step, innermost first
abbrev pub behind : List Wish → List Wish
behind [] = []
behind (w ∷ ws) = ws

-- the wishes of each block in order, its own first, where some are open already
abbrev pub asked_from : List Wish → List Step → List (List Wish)
asked_from ws [] = []
asked_from ws (Opens w ∷ ss) = (w ∷ ws) ∷ asked_from (w ∷ ws) ss
asked_from ws (Closes ∷ ss) = asked_from (behind ws) ss

-- all wishes of the steps
abbrev pub wishes_in : List Step → List Wish
wishes_in [] = []
wishes_in (Opens w ∷ ss) = w ∷ wishes_in ss
wishes_in (Closes ∷ ss) = wishes_in ss

-- the open wishes after a step
abbrev pub path_behind : List Wish → Step → List Wish
path_behind ws (Opens w) = w ∷ ws
path_behind ws Closes = behind ws

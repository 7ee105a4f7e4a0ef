-- The macro names of a source: those that its conditions and macro lines name, numbered from 0 by first
-- appearance. Names inside opaque pieces do not count. This project's rule.
use Rattle.std.specs.Prelude.{◌≡◌, Bool, false, List, [], ◌∷◌, ◌++◌, if◌then◌else◌}
use Rattle.std.specs.List.{list_any, flat_map}
use Rattle.ut_text.specs.Bytes.{Bytes}
use Rattle.ut_text.specs.Text.{text_eq}
use Rattle.cpp_directives.specs.declared.condition.Cond.{Cond}
use Rattle.cpp_directives.specs.declared.condition.Cond.TheOpen.{Cond-F}
use Rattle.cpp_directives.specs.declared.condition.Cond.TheFolds.{fold-Cond}
use Rattle.cpp_directives.specs.declared.directive.Directive.{Directive}
use Rattle.cpp_directives.specs.declared.directive.What.{What}
use Rattle.cpp_directives.specs.declared.directive.What.TheVariants.{If, Elif, Else, Endif, Define, Undef}

-- the members, and x as the last if none is equal to it
abbrev pub with_new : {A : Type 0} → (A → A → Bool) → List A → A → List A
with_new eq xs x = if list_any (eq x) xs then xs else xs ++ x ∷ []

-- the members so far, and after them the new ones of more, each once
abbrev pub firsts : {A : Type 0} → (A → A → Bool) → List A → List A → List A
firsts eq seen [] = seen
firsts eq seen (x ∷ more) = firsts eq (with_new eq seen x) more

-- each member is equal to no later one
abbrev pub AreEachOnce : {A : Type 0} → (A → A → Bool) → List A → Type 0
AreEachOnce eq [] = Unit {0}
AreEachOnce eq (x ∷ xs) = (list_any (eq x) xs ≡ false) × AreEachOnce eq xs

-- the names of one layer of a condition, with those of each inner one in its place
abbrev pub names_step : Cond-F (List Bytes) → List Bytes
names_step (Cond-F.Const b) = []
names_step (Cond-F.Defined name) = name ∷ []
names_step (Cond-F.Plain name) = name ∷ []
names_step (Cond-F.Piece text) = []
names_step (Cond-F.Neg names) = names
names_step (Cond-F.AllOf lists) = flat_map (λ names. names) lists
names_step (Cond-F.AnyOf lists) = flat_map (λ names. names) lists

-- the names of a condition, in order
abbrev pub names_in : Cond → List Bytes
names_in = fold-Cond (List Bytes) names_step

-- the names of a directive
abbrev pub names_at : What → List Bytes
names_at (If cond) = names_in cond
names_at (Elif cond) = names_in cond
names_at Else = []
names_at Endif = []
names_at (Define name gives) = name ∷ []
names_at (Undef name) = name ∷ []

-- the names of a source, each once
abbrev pub names_of : List Directive → List Bytes
names_of ds = firsts text_eq [] (flat_map (λ d. names_at d.what) ds)

-- When steps and paths are equal, and lists of paths in which each stands once. This project's rule.
use Rattle.std.specs.Prelude.{◌≡◌, Bool, true, false, ◌&&◌, ◌++◌, List, [], ◌∷◌, refl, if◌then◌else◌}
use Rattle.std.specs.Bool.{Decides}
use Rattle.std.specs.Cmp.{IsEquivalence, decided}
use Rattle.std.specs.Cmp.Lexicographic.{pointwise, lists_equiv}
use Rattle.std.specs.Hash.{HashWrites, str, slice}
use Rattle.std.specs.List.{list_any}
use Rattle.std.proofs.Common.{ap, subst}
use Rattle.std.proofs.lemmas.Bool.{false≢true}
use Rattle.ut_text.specs.Text.{text_eq, text_equiv, text_eq-exact}
use Rattle.kbuild_paths.specs.declared.step.Step.{Step}
use Rattle.kbuild_paths.specs.declared.step.Step.TheVariants.{On, Free}

-- the same symbol, or the same text of a free condition
abbrev pub step_eq : Step → Step → Bool
step_eq (On name) (On other) = text_eq name other
step_eq (Free text) (Free other) = text_eq text other
step_eq (On name) (Free other) = false
step_eq (Free text) (On other) = false

-- the same steps
abbrev pub path_eq : List Step → List Step → Bool
path_eq = pointwise step_eq

-- one more path, where it doesn't stand there
abbrev pub with_path : List (List Step) → List Step → List (List Step)
with_path paths path = if list_any (path_eq path) paths then paths else paths ++ path ∷ []

-- more paths, one after another, each once
abbrev pub with_paths : List (List Step) → List (List Step) → List (List Step)
with_paths paths [] = paths
with_paths paths (p ∷ ps) = with_paths (with_path paths p) ps

-- ---- what comparing and hashing rest on

pub step_decides : (x y : Step) → Decides (step_eq x y) (x ≡ y)
step_decides (On x) (On y) = ((λ h. ap On (text_eq-exact x y h)), (λ e. let same : x ≡ y = cc in subst (λ z. text_eq x z ≡ true) same (text_equiv.refl x)))
step_decides (Free x) (Free y) = ((λ h. ap Free (text_eq-exact x y h)), (λ e. let same : x ≡ y = cc in subst (λ z. text_eq x z ≡ true) same (text_equiv.refl x)))
step_decides (On x) (Free y) = ((λ h. absurd (false≢true h)), (λ e. absurd (cc)))
step_decides (Free x) (On y) = ((λ h. absurd (false≢true h)), (λ e. absurd (cc)))

pub step_equiv : IsEquivalence step_eq
step_equiv = decided step_eq step_decides

pub path_equiv : IsEquivalence path_eq
path_equiv = lists_equiv step_equiv

-- paths that test equal are one
pub path_eq-exact : (xs ys : List Step) → path_eq xs ys ≡ true → xs ≡ ys
path_eq-exact [] [] h = refl
path_eq-exact [] (y ∷ ys) h = absurd (false≢true h)
path_eq-exact (x ∷ xs) [] h = absurd (false≢true h)
path_eq-exact (x ∷ xs) (y ∷ ys) h = by (step_eq x y) refl h (path_eq-exact xs ys)
  where
    by : (b : Bool) → step_eq x y ≡ b → (b && path_eq xs ys) ≡ true → (path_eq xs ys ≡ true → xs ≡ ys) → x ∷ xs ≡ y ∷ ys
    by true e h rest = rw ((step_decides x y).0 e, rest h) refl
    by false e h rest = absurd (false≢true h)

-- what a step feeds a hash
abbrev pub step_fed : Step → HashWrites
step_fed (On name) = str name
step_fed (Free text) = str text

pub step_alike : (x y : Step) → step_eq x y ≡ true → step_fed x ≡ step_fed y
step_alike x y h = ap step_fed ((step_decides x y).0 h)

pub path_alike : (xs ys : List Step) → path_eq xs ys ≡ true → slice step_fed xs ≡ slice step_fed ys
path_alike xs ys h = ap (slice step_fed) (path_eq-exact xs ys h)

-- The last of a list.
use Rattle.std.proofs.Common.{◌≡◌, List, [], ◌∷◌, ◌++◌, refl, ap}
use Rattle.kconf_progress.specs.Kept.{on_last}

pub on_last_append : {A : Type 0} (f : A → A) (xs : List A) (o : A) → on_last f (xs ++ o ∷ []) ≡ xs ++ f o ∷ []
on_last_append f [] o = refl
on_last_append f (x ∷ []) o = refl
on_last_append f (x ∷ y ∷ xs) o = ap (λ zs. x ∷ zs) (on_last_append f (y ∷ xs) o)

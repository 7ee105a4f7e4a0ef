-- Whether nothing is refused, as a test.
use Rattle.std.proofs.Common.{◌≡◌, refl, [], ◌∷◌, Bool, true, false, ◌&&◌}
use Rattle.std.proofs.lemmas.Bool.{false≢true}
use Rattle.clap.specs.Kinds.{Kinds, or_else}

unfoldable pub is_nil : Kinds → Bool
is_nil [] = true
is_nil (k ∷ ks) = false

pub is_nil-or : (a b : Kinds) → is_nil (or_else a b) ≡ (is_nil a && is_nil b)
unfolding is_nil
is_nil-or [] b = refl
is_nil-or (k ∷ ks) b = refl

pub nil_of : (a : Kinds) → is_nil a ≡ true → a ≡ []
unfolding is_nil
nil_of [] h = refl
nil_of (k ∷ ks) h = absurd (false≢true h)

-- The innermost of the open parts.
use Rattle.std.proofs.Common.{◌≡◌, ℕ, refl, ap, List, [], ◌∷◌, ◌++◌, Result}
use Rattle.kbuild_text.specs.Chains.{closed, turned, turned_text}
use Rattle.kbuild_text.specs.Listings.{in_part}
use Rattle.kbuild_text.specs.declared.chains.Chain.{Chain}
use Rattle.kbuild_text.specs.declared.listings.Listing.{Listing}
use Rattle.kbuild_text.specs.declared.marks.Mark.{Mark}

pub turned-push : (words : List (List Mark)) (cs : List Chain) (c : Chain) → turned words (cs ++ c ∷ []) ≡ cs ++ record c { text = turned_text c words } ∷ []
turned-push words [] c = refl
turned-push words (x ∷ []) c = refl
turned-push words (x ∷ y ∷ cs) c = ap (λ l. x ∷ l) (turned-push words (y ∷ cs) c)

pub closed-push : (cs : List Chain) (c : Chain) → closed (cs ++ c ∷ []) ≡ cs
closed-push [] c = refl
closed-push (x ∷ []) c = refl
closed-push (x ∷ y ∷ cs) c = ap (λ l. x ∷ l) (closed-push (y ∷ cs) c)

pub in_part-push : (cs : List Chain) (c : Chain) (number : ℕ) (read : Result (List Listing) ℕ) → in_part (cs ++ c ∷ []) number read ≡ read
in_part-push [] c number read = refl
in_part-push (x ∷ cs) c number read = refl

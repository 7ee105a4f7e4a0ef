-- A loop's next element after those before it.
use Rattle.std.proofs.Common.{◌≡◌, ℕ, ◌+◌, ◌<◌, List, [], ◌∷◌, ◌++◌, length, take, get_or, ap, sym, ◌∙◌}
use Rattle.std.proofs.lemmas.List.{take_more}

pub one_more : {A : Type 0} (xs : List A) (i : ℕ) (x : A) → i < length xs → x ≡ get_or xs i x → take i xs ++ x ∷ [] ≡ take (i + 1) xs
one_more xs i x h e = ap (λ y. take i xs ++ y ∷ []) e ∙ sym (take_more xs i x h)

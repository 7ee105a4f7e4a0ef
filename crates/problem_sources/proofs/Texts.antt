-- The text before an end.
use Rattle.std.proofs.Common.{◌≡◌, ℕ, zero, suc, ◌-◌, Bool, true, false, cond, refl, ap, sym, subst, ◌∙◌, List, [], ◌∷◌, ◌++◌, length, take, drop, Option, None, Some, nat_eq}
use Rattle.std.proofs.lemmas.Cmp.{nat_list_eq_equiv}
use Rattle.std.specs.List.{ends_with}
use Rattle.std.specs.Option.{option_map, MatchOption}
use Rattle.std.specs.Str.Pattern.{FindsTextSuffix, StripsSuffix}
use Rattle.ut_text.specs.Text.{text_eq, text_eq-exact}

whole_text : (xs : List ℕ) (n : ℕ) → take n xs ++ drop n xs ≡ xs
whole_text [] zero = refl
whole_text [] (suc n) = refl
whole_text (x ∷ xs) zero = refl
whole_text (x ∷ xs) (suc n) = ap (λ ys. x ∷ ys) (whole_text xs n)

same_back : (xs ys zs : List ℕ) → xs ++ ys ≡ xs ++ zs → ys ≡ zs
same_back [] ys zs h = h
same_back (x ∷ xs) ys zs h = same_back xs ys zs (tail x (xs ++ ys) (xs ++ zs) h)
  where
    tail : (x : ℕ) (us vs : List ℕ) → ◌≡◌ {A = List ℕ} (x ∷ us) (x ∷ vs) → us ≡ vs
    tail x us vs g = cc

-- the text before an end, if the text ends so
pub front_of_end : {B : Type 0} (view : B → List ℕ) (end s : List ℕ) (r : Option B)
    → MatchOption r (FindsTextSuffix end s None) (λ x. StripsSuffix (FindsTextSuffix end) s (view x))
    → option_map view r ≡ cond (ends_with nat_eq s end) (Some (take (length s - length end) s)) None
front_of_end view end s None h = by (ends_with nat_eq s end) refl
  where
    by : (b : Bool) → ends_with nat_eq s end ≡ b → None ≡ cond b (Some (take (length s - length end) s)) None
    by true e = absurd (h (take (length s - length end) s) (sym (whole_text s (length s - length end)) ∙ ap (λ back. take (length s - length end) s ++ back) (sym (text_eq-exact end (drop (length s - length end) s) e))))
    by false e = refl
front_of_end view end s (Some x) h = rw (ends) (ap Some (h.2 ∙ ap (λ k. take (length s - k) s) h.1.0))
  where
    back : drop (length s - length end) s ≡ end
    back = same_back (take (length s - length end) s) (drop (length s - length end) s) end
        (whole_text s (length s - length end) ∙ subst (λ k. s ≡ take (length s - k) s ++ end) h.1.0 h.1.1)

    ends : ends_with nat_eq s end ≡ true
    ends = ap (text_eq end) back ∙ nat_list_eq_equiv.refl end
